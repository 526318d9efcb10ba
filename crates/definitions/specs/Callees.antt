-- Demand 3: "the callee of each element lowered on the way is createElement exactly if a plain key attribute follows a spread, otherwise jsxDEV in
-- development, jsxs if two or more children survive, else jsx". What a tree says of this, by definitions that owe nothing to the lowering's, and how callees are
-- read off a call tape.
use Rattle.std.specs.Prelude.{ℕ, suc, Bool, true, false, cond, not, ◌&&◌, ◌||◌, List, [], ◌∷◌, ◌++◌, eqb, leb}
use Rattle.text.specs.declared.spans.Span.{Span}
use Rattle.text.specs.Bytes.{ascii, same}
use Rattle.text.specs.Chars.{is_white_space, is_line_terminator}
use Rattle.text.specs.Spans.{part_of}
use Rattle.definitions.specs.Tree.{Node, element, fragment, Attributes, no_attributes, attribute, namespaced_attribute, spread, literal, Value, absent, string, expression, empty, node_value, Children, no_children, text_child, expression_child, empty_child, spread_child, node_child, Root}
use Rattle.definitions.specs.JsxText.{Placed, chars_from}
use Rattle.definitions.specs.Calls.{Bare, WithByte, Command, bare, byte, over, span, binding, source}
use Rattle.definitions.specs.Calls as call
use Rattle.definitions.specs.Store.{create_element, jsx, jsxs, jsx_dev, source_of}
use Rattle.definitions.specs.Records.{Entry, named, required, file}

-- ---- key follows a spread

-- an attribute, as far as keys and spreads are concerned
pub data Mark : Type 0 where
  key_mark spread_mark other_mark : Mark

unfoldable pub marks_of : List ℕ → Attributes → List Mark
marks_of text no_attributes = []
marks_of text (attribute s v a) = cond (same (part_of text s) (ascii "key")) key_mark other_mark ∷ marks_of text a
marks_of text (namespaced_attribute s r v a) = other_mark ∷ marks_of text a
marks_of text (spread e a) = spread_mark ∷ marks_of text a
marks_of text (literal e ps a) = spread_mark ∷ marks_of text a

unfoldable pub any_key : List Mark → Bool
any_key [] = false
any_key (key_mark ∷ ms) = true
any_key (spread_mark ∷ ms) = any_key ms
any_key (other_mark ∷ ms) = any_key ms

-- a key stands behind the first spread
unfoldable pub key_follows_spread : List Mark → Bool
key_follows_spread [] = false
key_follows_spread (spread_mark ∷ ms) = any_key ms
key_follows_spread (key_mark ∷ ms) = key_follows_spread ms
key_follows_spread (other_mark ∷ ms) = key_follows_spread ms

-- ---- children survive

unfoldable pub one_line : List Placed → Bool
one_line [] = true
one_line (c ∷ cs) = not (is_line_terminator c.code) && one_line cs

unfoldable pub any_ink : List Placed → Bool
any_ink [] = false
any_ink (c ∷ cs) = not (is_line_terminator c.code || is_white_space c.code) || any_ink cs

-- a text survives if it is one line, or has a character that is no white space
abbrev pub text_survives : List ℕ → Span → Bool
text_survives text s = one_line (chars_from 0 s.start (part_of text s)) || any_ink (chars_from 0 s.start (part_of text s))

unfoldable pub surviving : List ℕ → Children → ℕ
surviving text no_children = 0
surviving text (text_child s k) = cond (text_survives text s) (suc (surviving text k)) (surviving text k)
surviving text (expression_child e k) = suc (surviving text k)
surviving text (empty_child k) = surviving text k
surviving text (spread_child e k) = suc (surviving text k)
surviving text (node_child n k) = suc (surviving text k)

-- ---- the callee by that rule

unfoldable pub callee_of_node : List ℕ → Bool → Node → ℕ
callee_of_node text development (element p n a k) =
    cond (key_follows_spread (marks_of text a)) create_element
    (cond development jsx_dev (cond (leb 2 (surviving text k)) jsxs jsx))
callee_of_node text development (fragment p k) = cond development jsx_dev (cond (leb 2 (surviving text k)) jsxs jsx)

-- ---- element lowered: the callees of the nodes of a tree, in order of their calls' ends. A node's own call ends last.

-- a value other than none
unfoldable pub given : Value → Bool
given absent = false
given (string s) = true
given (expression e) = true
given empty = true
given (node_value n) = true

-- a key that a later one with a value overrides: "Among automatic keys the last value counts; earlier ones are never lowered."
unfoldable pub later_valued_key : List ℕ → Attributes → Bool
later_valued_key text no_attributes = false
later_valued_key text (attribute s v a) = (same (part_of text s) (ascii "key") && given v) || later_valued_key text a
later_valued_key text (namespaced_attribute s r v a) = later_valued_key text a
later_valued_key text (spread e a) = later_valued_key text a
later_valued_key text (literal e ps a) = later_valued_key text a

unfoldable mutual
  pub callees_in : List ℕ → Bool → Node → List ℕ
  callees_in text development (element p n a k) =
      callees_in_values text development (key_follows_spread (marks_of text a)) a
      ++ callees_in_children text development k
      ++ callees_in_key text development (key_follows_spread (marks_of text a)) a
      ++ callee_of_node text development (element p n a k) ∷ []
  callees_in text development (fragment p k) =
      callees_in_children text development k ++ callee_of_node text development (fragment p k) ∷ []

  -- the values of the attributes: all of them, or all but those of keys
  pub callees_in_values : List ℕ → Bool → Bool → Attributes → List ℕ
  callees_in_values text development all no_attributes = []
  callees_in_values text development all (attribute s v a) =
      cond (same (part_of text s) (ascii "key") && not all) [] (callees_in_value text development v)
      ++ callees_in_values text development all a
  callees_in_values text development all (namespaced_attribute s r v a) =
      callees_in_value text development v ++ callees_in_values text development all a
  callees_in_values text development all (spread e a) = callees_in_values text development all a
  callees_in_values text development all (literal e ps a) = callees_in_values text development all a

  -- the value of the key that no later one overrides, where keys are not among the attributes
  pub callees_in_key : List ℕ → Bool → Bool → Attributes → List ℕ
  callees_in_key text development all no_attributes = []
  callees_in_key text development all (attribute s v a) =
      cond (same (part_of text s) (ascii "key") && not all && not (later_valued_key text a)) (callees_in_value text development v) []
      ++ callees_in_key text development all a
  callees_in_key text development all (namespaced_attribute s r v a) = callees_in_key text development all a
  callees_in_key text development all (spread e a) = callees_in_key text development all a
  callees_in_key text development all (literal e ps a) = callees_in_key text development all a

  pub callees_in_value : List ℕ → Bool → Value → List ℕ
  callees_in_value text development absent = []
  callees_in_value text development (string s) = []
  callees_in_value text development (expression e) = []
  callees_in_value text development empty = []
  callees_in_value text development (node_value n) = callees_in text development n

  pub callees_in_children : List ℕ → Bool → Children → List ℕ
  callees_in_children text development no_children = []
  callees_in_children text development (text_child s k) = callees_in_children text development k
  callees_in_children text development (expression_child e k) = callees_in_children text development k
  callees_in_children text development (empty_child k) = callees_in_children text development k
  callees_in_children text development (spread_child e k) = callees_in_children text development k
  callees_in_children text development (node_child n k) = callees_in text development n ++ callees_in_children text development k

-- the callees of a list of roots, one for each element and fragment lowered
unfoldable pub callees_of_roots : List ℕ → Bool → List Root → List ℕ
callees_of_roots text development [] = []
callees_of_roots text development (r ∷ rs) = callees_in text development r.node ++ callees_of_roots text development rs

-- ---- callees read off a tape

-- a callee: the source of its binding's record, and its name
pub record Callee : Type 0 where
  pub source : ℕ
  pub name : ℕ

abbrev pub callee_named : ℕ → Callee
callee_named n = record { source = source_of n; name = n }

-- "a callee's name stands in its binding's record, in a script in its 99": the record of a binding, with the name that may follow
unfoldable pub callee_by : ℕ → ℕ → List Entry → List Callee
callee_by b n [] = []
callee_by b n (named s m c ∷ es) = cond (eqb b c) (record { source = s; name = m } ∷ []) (callee_by b n es)
callee_by b n (required s c ∷ es) = cond (eqb b c) (record { source = s; name = n } ∷ []) (callee_by b n es)
callee_by b n (file c p ∷ es) = callee_by b n es

abbrev pub is_member : WithByte → Bool
is_member c = eqb (call.byte_code c) 0x99

-- the name behind a binding, "in its 99", or a number that is no name
unfoldable pub name_behind : List (Command ℕ) → ℕ
name_behind [] = 255
name_behind (bare c ∷ cs) = 255
name_behind (byte c n ∷ cs) = cond (is_member c) n 255
name_behind (over c e ∷ cs) = 255
name_behind (span c s ∷ cs) = 255
name_behind (binding b ∷ cs) = 255
name_behind (source b p ∷ cs) = 255

unfoldable pub callee_behind : List Entry → List (Command ℕ) → List Callee
callee_behind es [] = []
callee_behind es (bare c ∷ cs) = []
callee_behind es (byte c n ∷ cs) = []
callee_behind es (over c e ∷ cs) = []
callee_behind es (span c s ∷ cs) = []
callee_behind es (binding b ∷ cs) = callee_by b (name_behind cs) es
callee_behind es (source b p ∷ cs) = []

abbrev pub is_callee : Bare → Bool
is_callee c = eqb (call.bare_code c) 0x9f

-- "9F callee": what stands behind each 9F of the calls
unfoldable pub callees_read : List Entry → List (Command ℕ) → List Callee
callees_read es [] = []
callees_read es (bare c ∷ cs) = cond (is_callee c) (callee_behind es cs) [] ++ callees_read es cs
callees_read es (byte c n ∷ cs) = callees_read es cs
callees_read es (over c e ∷ cs) = callees_read es cs
callees_read es (span c s ∷ cs) = callees_read es cs
callees_read es (binding b ∷ cs) = callees_read es cs
callees_read es (source b p ∷ cs) = callees_read es cs
