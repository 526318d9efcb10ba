-- The element or fragment behind a root's scopes, and the root.
-- Assumes nothing.
use Rattle.std.specs.Prelude.{Ok}
use mathlib.Core.Path.{◌≡◌, sym, ap, subst, ◌∙◌}
use mathlib.Core.Bool.{Bool, true}
use mathlib.Core.List.{List}
use Prim.Native.Nat.{ℕ, ◌≤◌, ◌<◌}
use native.Mathlib.Omega.{arith}
use lib.ListN.{length, drop, length-drop}
use Rattle.commands.specs.declared.root.Place.{Place}
use Rattle.commands.specs.declared.root.ScopeCommand.TheVariants as scopes
use Rattle.commands.specs.Root.{scope_command}
use Rattle.definitions.specs.declared.options.Settings.{Settings}
use Rattle.definitions.specs.Judging.{done}
use Rattle.definitions.specs.Tree.{Node, Root}
use Rattle.definitions.specs.Reading.{opened, element_at, fragment_at}
use Rattle.definitions.specs.Lowering.{Context, lower_node, lower_root}
use Rattle.pen.specs.declared.pen.Pen.{Pen}
use Rattle.emit.specs.declared.used.Used.{Used}
use Rattle.pen.specs.Emitting.{Produced}
use Rattle.emit.specs.Heads.{NodeAt, element_headed, fragment_headed, HeadOf}
use Rattle.parts.proofs.Inversions.{opened_done}
use Rattle.jsx.proofs.Parenting.{countable, ElementWritten, FragmentWritten}

-- ---- the element or fragment at the front

module _ (c : Context) (t part : List ℕ) (here : part ≡ drop 9 t) (fits : 9 ≤ length t) {p p' : Pen} {used : ℕ} where
  pub root_element : (at : Place) → scope_command true t ≡ Ok (scopes.Element at) → at.line < 4294967296 → at.column < 4294967296
      → ElementWritten c part p p' used at → (n : Node) → NodeAt c.text t n → Produced (lower_node c n) p p'
  root_element at k l m w n (fragment_headed q f u e h o) = let z : ◌≡◌ {A = ℕ} 0 1 = cc in absurd (omega arith)
  root_element at k l m w n (element_headed q f u e h o) =
      let same : q ≡ at = cc in
      let r = opened_done 0 at (element_at f c.text 0 at (drop 9 t)) (subst (λ (a : Place). opened 0 a (element_at f c.text 0 a (drop 9 t)) ≡ done n u) same o) in
      (w f 0 n r.0 (omega (arith, ap length here, length-drop 9 t)) (ap (λ (x : List ℕ). element_at f c.text 0 at x) here ∙ r.1) (countable at l m r.3 r.4)).wrote

  pub root_fragment : (at : Place) → scope_command true t ≡ Ok (scopes.Fragment at) → FragmentWritten c part p p' used
      → (n : Node) → NodeAt c.text t n → Produced (lower_node c n) p p'
  root_fragment at k w n (element_headed q f u e h o) = let z : ◌≡◌ {A = ℕ} 0 1 = cc in absurd (omega arith)
  root_fragment at k w n (fragment_headed q f u e h o) =
      let r = opened_done 0 q (fragment_at f c.text 0 q (drop 9 t)) o in
      (w f 0 q n r.0 (omega (arith, ap length here, length-drop 9 t)) (ap (λ (x : List ℕ). fragment_at f c.text 0 q x) here ∙ r.1)).wrote

-- ---- the root

pub root_lowered : (text t part : List ℕ) (s : Settings) (o : Root) (r : Used Bool) {p p' : Pen} → part ≡ drop r.used t → HeadOf text t o r
    → ((n : Node) → NodeAt text part n → Produced (lower_node (record { text = text; settings = s; self_allowed = r.value }) n) p p')
    → Produced (lower_root text s o) p p'
unfolding lower_root
root_lowered text t part s o r {p} {p'} here H w =
    subst (λ (b : Bool). Produced (lower_node (record { text = text; settings = s; self_allowed = b }) o.node) p p') H.allowed
    (w o.node (subst (λ (l : List ℕ). NodeAt text l o.node) (sym here) H.node))
