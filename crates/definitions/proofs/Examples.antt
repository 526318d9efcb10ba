-- The two tables of examples (specs/Examples), computed from the definitions: each row is answered as it says.
--     proved_set       the specification's "Sheets to try"
--     readings_set     how open places were read
-- Assumes nothing.
use Rattle.std.specs.Prelude.{refl}
use Rattle.text.specs.Bytes.{find_from}
use Rattle.text.specs.Utf8.{within, width, after, ill_from, first_ill}
use Rattle.text.specs.Chars.{front_code, char_of, is_white_space, is_line_terminator}
use Rattle.text.specs.Spans.{part_of, cuts_at, bounds_of}
use Rattle.references.specs.References.{is_of, run, closed, opens_as, opens_in, has_reference}
use Rattle.tape.specs.Refusals.{fault_number, number_of, figure_of}
use Rattle.commands.specs.Opening.{flags_command, option_command}
use Rattle.commands.specs.Root.{heritage_command, scope_command, name_command, member_command, attribute_command, property_command, value_command, child_command}
use Rattle.definitions.specs.Judging.{◌then◌, from, spanned, named, worse, refuse, refuse_at, read}
use Rattle.definitions.specs.Judging as judging
use Rattle.definitions.specs.Options.{flags_of, conform}
use Rattle.definitions.specs.Comments.{or_else, keyword_of, counts, on_keyword, on_word, on_sign, seek, applied, on_value, on_search, comment_from, with_comment, with_comments}
use Rattle.definitions.specs.Pragmas.{onto, split, is_identifier_start, is_identifier_part, is_identifier_name, is_reserved_word, tail_from, meta_behind, parts_read, pragma_of, behind_place, pragma_in, form_by}
use Rattle.definitions.specs.Opening.{option_by, options_from, opening_by, read_opening, options_of, mode_of, pragma_under, settings_of, pragma_notice, opening_notices, shifted, over_ascii_in, if_classic, pragmas_checked, notices_fitted, judge_opening}
use Rattle.definitions.specs.Reading.{lettered, opened, members_by, name_by, properties_by, attributes_by, value_by, children_by, members_at, name_at, properties_at, element_at, fragment_at, attributes_at, value_at, children_at, scopes_by, scopes_at, root_by, whole, read_root}
use Rattle.definitions.specs.JsxText.{chars_from, lines_of, trim_front, before_trimmed, trim_back, later_lines, end_of, spans_of, kept_lines, jsx_text}
use Rattle.definitions.specs.Calls.{lookup, read_by, read_first, read_from, read_calls, bare_code, byte_code, expression_code, span_code, bytes_of, call_bytes, notice_bytes_of, notice_bytes}
use Rattle.definitions.specs.Store.{same_import, number_in, bound, bound_by, bound_after, numbered, numbered_all, can_import, can_require, can_bind}
use Rattle.definitions.specs.Lowering.{joined, members, lower_name, imported, has_value, is_proto, has_proto, carried, is_found, attribute_name, key_notice, key_after_spread, some_line, survivors, has_spread, children_property, lower_text, source_output, self_output, static_children, no_key, is_classic, automatic_name, automatic_call, object_of, classic_call, is_last, lone_spread_or, lower_node, lower_attributes, lower_key, lower_value, lower_children, inside_constructor, lower_root, commands_of, notices_of}
use Rattle.definitions.specs.Records.{without, is_among, with_group, grouped_by, groups_from, entry_in, entries_in, group_tape, place_in, file_name_entry, file_name_tape, record_tape}
use Rattle.definitions.specs.States.{in_order, borne_out, root_number, form_borne_out, numbered_from, unrepeated, all_bindable, sound}
use Rattle.definitions.specs.Entries.{laid, opened_by, opened as opened_over, lowered_after, fitted, judge_root, records_from, moved, judge_writing, judge_records}
use Rattle.definitions.specs.Program.{print_records, print_root, print_opening, jsxtape}
use Rattle.definitions.specs.Examples.{digit, hex_of, pairs_of, opening_reply, meaning_of, meaning, reply_to, table, Answered, readings}

computed : Answered table × Answered readings
unfolding reply_to pairs_of opening_reply meaning_of meaning digit hex_of
    find_from within width after ill_from first_ill front_code char_of is_white_space is_line_terminator part_of cuts_at bounds_of
    fault_number number_of figure_of flags_command option_command
    heritage_command scope_command name_command member_command attribute_command property_command value_command child_command
    ◌then◌ judging.map from spanned named worse refuse refuse_at read
    flags_of conform
    or_else keyword_of counts on_keyword on_word on_sign seek applied on_value on_search comment_from with_comment with_comments
    onto split is_identifier_start is_identifier_part is_identifier_name is_reserved_word tail_from meta_behind parts_read pragma_of behind_place pragma_in form_by
    option_by options_from opening_by read_opening options_of mode_of pragma_under settings_of pragma_notice opening_notices shifted over_ascii_in if_classic pragmas_checked notices_fitted judge_opening
    is_of run closed opens_as opens_in has_reference lettered opened members_by name_by properties_by attributes_by value_by children_by members_at name_at properties_at element_at fragment_at attributes_at value_at children_at scopes_by scopes_at root_by whole read_root
    chars_from lines_of trim_front before_trimmed trim_back later_lines end_of spans_of kept_lines jsx_text
    bare_code byte_code expression_code span_code bytes_of call_bytes notice_bytes_of notice_bytes lookup read_by read_first read_from read_calls
    same_import number_in bound bound_by bound_after numbered numbered_all can_import can_require can_bind
    joined members lower_name imported has_value is_proto has_proto carried is_found attribute_name key_notice key_after_spread some_line survivors has_spread children_property lower_text source_output self_output static_children no_key is_classic automatic_name automatic_call object_of classic_call is_last lone_spread_or lower_node lower_attributes lower_key lower_value lower_children inside_constructor lower_root commands_of notices_of
    without is_among with_group grouped_by groups_from entry_in entries_in group_tape place_in file_name_entry file_name_tape record_tape
    in_order borne_out root_number form_borne_out numbered_from unrepeated all_bindable sound
    laid opened_by opened_over lowered_after fitted judge_root records_from moved judge_writing judge_records
    print_records print_root print_opening jsxtape
computed = (refl, refl)

pub proved_set : Answered table
proved_set = computed.0

pub readings_set : Answered readings
readings_set = computed.1
