-- Settings that a text bears out (`same_form`, `in_order` of definitions, States).
--     same_by_eq            what `==` says of two pragma forms
--     orderly, disorderly   a span that is empty or good, and one that is neither
-- Assumes nothing.
use mathlib.Core.Path.{◌≡◌, refl}
use mathlib.Core.Logic.{◌⊎◌, ⊎_elim}
use mathlib.Core.Bool.{true, false, ◌&&◌}
use lib.Dec.{eqb}
use Rattle.text.specs.declared.spans.Bounds.{Bounds}
use Rattle.text.specs.declared.spans.Bounds.TheVariants.{Outside, Cuts, Empty, Good}
use Rattle.definitions.specs.declared.options.PragmaRoot.{PragmaRoot}
use Rattle.definitions.specs.declared.options.PragmaRoot.TheVariants.{Default, This, ImportMeta, Identifier}
use Rattle.definitions.specs.declared.options.Form.{Form}
use Rattle.definitions.specs.contracts.options.FormPartialEq.TheImpl as form
use Rattle.definitions.specs.contracts.options.PragmaRootPartialEq.TheImpl as root
use Rattle.definitions.specs.States.{in_order, root_number, same_form}

same_root : (a b : PragmaRoot) → root.ghosts.eq a b ≡ eqb (root_number a) (root_number b)
unfolding root_number
same_root Default Default = refl
same_root Default This = refl
same_root Default ImportMeta = refl
same_root Default Identifier = refl
same_root This Default = refl
same_root This This = refl
same_root This ImportMeta = refl
same_root This Identifier = refl
same_root ImportMeta Default = refl
same_root ImportMeta This = refl
same_root ImportMeta ImportMeta = refl
same_root ImportMeta Identifier = refl
same_root Identifier Default = refl
same_root Identifier This = refl
same_root Identifier ImportMeta = refl
same_root Identifier Identifier = refl

pub same_by_eq : (f g : Form) → form.ghosts.eq f g ≡ same_form f g
same_by_eq f g = λ ι. same_root f.root g.root ι && eqb f.tail g.tail

pub orderly : (b : Bounds) → (b ≡ Empty) ⊎ (b ≡ Good) → true ≡ in_order b
unfolding in_order
orderly b = ⊎_elim (λ e. rw e) (λ e. rw e)

pub disorderly : (b : Bounds) → (b ≡ Empty → ⊥) → (b ≡ Good → ⊥) → false ≡ in_order b
unfolding in_order
disorderly Outside h k = refl
disorderly Cuts h k = refl
disorderly Empty h k = absurd (h refl)
disorderly Good h k = absurd (k refl)
