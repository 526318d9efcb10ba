use Rattle.std.proofs.Common.{◌+◌, ◌*◌, length}
use Rattle.root_check.proofs.check.+nodes.Given as goal

abbrev pub decreases-attribute_step : goal.decreases-attribute_step
decreases-attribute_step l = 4 * length l.tape.now + 1

abbrev pub decreases-child_step : goal.decreases-child_step
decreases-child_step l = 4 * length l.tape.now + 1

abbrev pub decreases-check_attributes-check_list : goal.decreases-check_attributes-check_list
decreases-check_attributes-check_list l = 4 * length l.part.now + 2

abbrev pub decreases-check_children-check_list : goal.decreases-check_children-check_list
decreases-check_children-check_list l = 4 * length l.part.now + 2

abbrev pub decreases-check_attributes : goal.decreases-check_attributes
decreases-check_attributes l = 4 * length l.tape.now + 3

abbrev pub decreases-check_children : goal.decreases-check_children
decreases-check_children l = 4 * length l.tape.now + 3

abbrev pub decreases-check_element : goal.decreases-check_element
decreases-check_element l = 4 * length l.tape.now + 4

abbrev pub decreases-check_value : goal.decreases-check_value
decreases-check_value l = 4 * length l.tape.now + 1

abbrev pub decreases-open_element : goal.decreases-open_element
decreases-open_element l = 4 * length l.tape.now

abbrev pub decreases-open_fragment : goal.decreases-open_fragment
decreases-open_fragment l = 4 * length l.tape.now

abbrev pub decreases-value_behind : goal.decreases-value_behind
decreases-value_behind l = 4 * length l.tape.now
