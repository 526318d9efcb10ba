-- Worked examples of lists of roots, computed from the definition.
use Rattle.std.specs.Prelude.{ℕ, ◌≡◌, refl, List, [], ◌∷◌, ◌++◌, map, length, replicate, Err, Ok, Result, ⊤}
use Rattle.tape.specs.declared.refusal.Refusal.{Refusal}
use Rattle.text.specs.Utf8.{ill_from, first_ill}
use Rattle.tape.specs.Refusals.{fault_number, number_of, figure_of}
use Rattle.definitions.specs.Judging.{refuse, refuse_at}
use Rattle.definitions.specs.States.{sound}
use Rattle.definitions.specs.Entries.{no_job, judge_root, outcome_by, root_outcome}
use Rattle.definitions.specs.Series.{World}
use Rattle.lowering.specs.RootLists.{roots_from, roots_in, Run, run_by, run_of, list_bytes, ending, run_tested, judge_list, judged_run, run}

pub no_list : roots_in [] ≡ []
unfolding roots_in roots_from
no_list = refl

-- one root, two, a root of length 0 between two others
pub whole_lists :
    map roots_in
    ((3 ∷ 0 ∷ 7 ∷ 8 ∷ 9 ∷ [])
    ∷ (1 ∷ 0 ∷ 7 ∷ 2 ∷ 0 ∷ 8 ∷ 9 ∷ [])
    ∷ (1 ∷ 0 ∷ 7 ∷ 0 ∷ 0 ∷ 1 ∷ 0 ∷ 9 ∷ [])
    ∷ [])
    ≡ ((7 ∷ 8 ∷ 9 ∷ []) ∷ [])
    ∷ ((7 ∷ []) ∷ (8 ∷ 9 ∷ []) ∷ [])
    ∷ ((7 ∷ []) ∷ [] ∷ (9 ∷ []) ∷ [])
    ∷ []
unfolding roots_in roots_from
whole_lists = refl

-- cut in a length, in a root, behind a length, and in the first length
pub cut_lists :
    map roots_in
    ((1 ∷ 0 ∷ 7 ∷ 2 ∷ [])
    ∷ (1 ∷ 0 ∷ 7 ∷ 2 ∷ 0 ∷ 8 ∷ [])
    ∷ (1 ∷ 0 ∷ 7 ∷ 2 ∷ 0 ∷ [])
    ∷ (1 ∷ [])
    ∷ [])
    ≡ ((7 ∷ []) ∷ [])
    ∷ ((7 ∷ []) ∷ [])
    ∷ ((7 ∷ []) ∷ [])
    ∷ []
    ∷ []
unfolding roots_in roots_from
cut_lists = refl

-- the low byte of a length comes first
pub long_root : map (λ (root : List ℕ). length root) (roots_in (2 ∷ 1 ∷ replicate 258 7 ++ 1 ∷ 0 ∷ 9 ∷ [])) ≡ 258 ∷ 1 ∷ []
unfolding roots_in roots_from
long_root = refl

-- ---- up to the first root that is refused, over a state that every root is refused over (12): how many were lowered, and the refusal

unfoldable pub figures : Result ⊤ Refusal → List ℕ
figures (Ok tt) = []
figures (Err r) = number_of r ∷ figure_of r ∷ []

abbrev pub told_of : Run → List ℕ
told_of r = r.taken ∷ figures r.answer

abbrev pub forged : World
forged = record { state = no_job; calls = []; notices = [] }

-- over a forged state: no root, a root of length 0, two roots; cut in the first length and in the first root; cut behind a root. The state is judged before all of them
pub ended_lists :
    map (λ (l : List ℕ). told_of (run [] forged l))
    ([]
    ∷ (0 ∷ 0 ∷ [])
    ∷ (1 ∷ 0 ∷ 7 ∷ 0 ∷ 0 ∷ [])
    ∷ (1 ∷ [])
    ∷ (2 ∷ 0 ∷ 7 ∷ [])
    ∷ (1 ∷ 0 ∷ 7 ∷ 1 ∷ [])
    ∷ [])
    ≡ (0 ∷ 12 ∷ 0 ∷ [])
    ∷ (0 ∷ 12 ∷ 0 ∷ [])
    ∷ (0 ∷ 12 ∷ 0 ∷ [])
    ∷ (0 ∷ 12 ∷ 0 ∷ [])
    ∷ (0 ∷ 12 ∷ 0 ∷ [])
    ∷ (0 ∷ 12 ∷ 0 ∷ [])
    ∷ []
unfolding figures roots_in roots_from run_by run_of list_bytes ending run_tested judge_list judged_run run first_ill ill_from fault_number number_of figure_of refuse refuse_at sound judge_root outcome_by root_outcome
ended_lists = refl
