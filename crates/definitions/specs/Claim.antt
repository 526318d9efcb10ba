-- Demand 3 as one claim over a series of roots, accepted and refused in any mix, after an accepted opening.
use Rattle.std.specs.Prelude.{ℕ, suc, ◌≤◌, ◌<◌, ◌≡◌, Bool, true, false, cond, ◌&&◌, List, [], ◌∷◌, ◌++◌, map, length, eqb, Err, Ok}
use Rattle.tape.specs.declared.refusal.Refusal.{Refusal}
use Rattle.definitions.specs.declared.options.Settings.{Settings}
use Rattle.definitions.specs.Judging.{accepted}
use Rattle.definitions.specs.Opening.{opening_bytes, judge_opening}
use Rattle.definitions.specs.Calls.{Command, bare, byte, over, span, binding, source, call_bytes, read_calls}
use Rattle.definitions.specs.Lowering.{is_classic}
use Rattle.definitions.specs.Records.{record_tape, Entry, named, required, file, read_records, outside, entry_bytes}
use Rattle.definitions.specs.States.{live}
use Rattle.definitions.specs.Entries.{laid, judge_records, records_answer, records_target}
use Rattle.definitions.specs.Series.{World, opening, outcome_in, next, series, accepted_in, trees_of, calls_of_all, notices_of_all, calls_so_far, notices_so_far}
use Rattle.definitions.specs.Callees.{callee_named, callees_of_roots, callees_read}

-- ---- what is read off the tapes

-- "A binding is mentioned by a 96 or A1."
unfoldable pub mentions : List (Command ℕ) → List ℕ
mentions [] = []
mentions (bare c ∷ cs) = mentions cs
mentions (byte c n ∷ cs) = mentions cs
mentions (over c e ∷ cs) = mentions cs
mentions (span c s ∷ cs) = mentions cs
mentions (binding b ∷ cs) = b ∷ mentions cs
mentions (source b p ∷ cs) = b ∷ mentions cs

abbrev pub mentioned : World → List ℕ
mentioned w = mentions (read_calls (calls_so_far w))

-- "A record is a B1, B2 or B3 on the tape that writing records gives then"
abbrev pub records_tape : World → List ℕ
records_tape w = record_tape w.state.settings.mode (live w.state)

abbrev pub records_so_far : World → List Entry
records_so_far w = read_records (records_tape w)

-- ---- counting

-- how many elements of a list pass a test
unfoldable pub count : {A : Type 0} → (A → Bool) → List A → ℕ
count p [] = 0
count p (x ∷ xs) = cond (p x) (suc (count p xs)) (count p xs)

unfoldable pub is_of : ℕ → Entry → Bool
is_of b (named s n c) = eqb b c
is_of b (required s c) = eqb b c
is_of b (file c p) = eqb b c

-- "no two records share source and name": "Two B2 of one source share, as do two B3."
unfoldable pub shares : Entry → Entry → Bool
shares (named s n b) (named t m c) = eqb s t && eqb n m
shares (named s n b) (required t c) = false
shares (named s n b) (file c p) = false
shares (required s b) (named t m c) = false
shares (required s b) (required t c) = eqb s t
shares (required s b) (file c p) = false
shares (file b p) (named t m c) = false
shares (file b p) (required t c) = false
shares (file b p) (file c q) = true

-- "what it says is its bytes and, for a B1 or B2, its group's source"
unfoldable pub says : Entry → Entry → Bool
says (named s n b) (named t m c) = eqb s t && eqb n m && eqb b c
says (named s n b) (required t c) = false
says (named s n b) (file c p) = false
says (required s b) (named t m c) = false
says (required s b) (required t c) = eqb s t && eqb b c
says (required s b) (file c p) = false
says (file b p) (named t m c) = false
says (file b p) (required t c) = false
says (file b p) (file c q) = eqb b c && eqb p q

-- ---- the claim

pub record Kept (text : List ℕ) (s : Settings) (calls notices : List ℕ) (roots : List (List ℕ)) : Type 0 where
  -- the calls so far are what the rules give from the text, the settings and the accepted roots alone; the notices so far are the opening's, then the roots'
  pub calls_determined :
      calls_so_far (series text (opening text s calls notices) roots)
      ≡ calls_of_all text s [] (trees_of text (accepted_in text (opening text s calls notices) roots))
  pub notices_determined :
      notices_so_far (series text (opening text s calls notices) roots)
      ≡ opening_bytes text s ++ notices_of_all text s [] (trees_of text (accepted_in text (opening text s calls notices) roots))
  -- the readers of both tapes reach their ends: the calls so far are the bytes of the commands read, and the record tape those of the records read
  pub calls_read :
      call_bytes (read_calls (calls_so_far (series text (opening text s calls notices) roots))) ≡ calls_so_far (series text (opening text s calls notices) roots)
  pub records_read :
      entry_bytes outside (records_so_far (series text (opening text s calls notices) roots)) ≡ records_tape (series text (opening text s calls notices) roots)
  -- the records are written wherever there is space for them
  pub written_records :
      (target : List ℕ)
      → length (records_tape (series text (opening text s calls notices) roots)) ≤ length target
      → (records_answer (judge_records text (series text (opening text s calls notices) roots).state (length target))
      ≡ Ok (length (records_tape (series text (opening text s calls notices) roots))))
      × (records_target target (judge_records text (series text (opening text s calls notices) roots).state (length target))
      ≡ laid 0 (records_tape (series text (opening text s calls notices) roots)) target)
  -- each binding that the calls so far mention has exactly one record
  pub one_record :
      (b : ℕ)
      → 0 < count (eqb b) (mentioned (series text (opening text s calls notices) roots))
      → count (is_of b) (records_so_far (series text (opening text s calls notices) roots)) ≡ 1
  -- each record is mentioned
  pub each_mentioned :
      (b : ℕ)
      → 0 < count (is_of b) (records_so_far (series text (opening text s calls notices) roots))
      → 0 < count (eqb b) (mentioned (series text (opening text s calls notices) roots))
  -- no two records share source and name
  pub none_shared : (e : Entry) → count (shares e) (records_so_far (series text (opening text s calls notices) roots)) ≤ 1
  -- whatever roots follow, the calls so far begin the calls then, and the notices so far the notices then
  pub calls_begin :
      (more : List (List ℕ))
      → (rest : List ℕ)
      × (calls_so_far (series text (opening text s calls notices) (roots ++ more)) ≡ calls_so_far (series text (opening text s calls notices) roots) ++ rest)
  pub notices_begin :
      (more : List (List ℕ))
      → (rest : List ℕ)
      × (notices_so_far (series text (opening text s calls notices) (roots ++ more)) ≡ notices_so_far (series text (opening text s calls notices) roots) ++ rest)
  -- and no record is lost or says anything else
  pub records_stay :
      (more : List (List ℕ)) (e : Entry)
      → count (says e) (records_so_far (series text (opening text s calls notices) roots))
      ≤ count (says e) (records_so_far (series text (opening text s calls notices) (roots ++ more)))
  -- under automatic settings the callees on the tape are those of the elements and fragments lowered, one call each
  pub callees :
      is_classic s.mode ≡ false
      → callees_read
      (records_so_far (series text (opening text s calls notices) roots))
      (read_calls (calls_so_far (series text (opening text s calls notices) roots)))
      ≡ map callee_named (callees_of_roots text s.options.flags.development (trees_of text (accepted_in text (opening text s calls notices) roots)))
  -- a root that is refused then changes nothing
  pub refused_leaves :
      (tape : List ℕ) (r : Refusal)
      → (outcome_in text (series text (opening text s calls notices) roots) tape).stepped.answer ≡ Err r
      → next text (series text (opening text s calls notices) roots) tape ≡ series text (opening text s calls notices) roots

-- Demand 3: over any targets, after any opening that is accepted there, for any list of roots
abbrev pub Demand3 : Type 0
Demand3 =
    (text job : List ℕ) (s : Settings) (calls notices : List ℕ)
    → judge_opening text job (length notices) ≡ accepted s
    → (roots : List (List ℕ))
    → Kept text s calls notices roots
