-- The properties of an object literal one by one, as the code hands them on.
use Rattle.std.specs.Prelude.{◌≡◌, List, [], ◌∷◌, ℕ, suc, ◌+◌, ◌≤◌, ◌<◌, length, Option, None, Some}
use Rattle.text.specs.declared.spans.Span.{Span}
use Rattle.definitions.specs.Judging.{done}
use Rattle.definitions.specs.Tree.{Property, unnamed, prop_name}
use Rattle.definitions.specs.Reading.{properties_at}
use Rattle.emit.specs.declared.jsx_impl.Ahead.{Ahead}

-- a property with this expression and this name, or with none
unfoldable pub property_of : ℕ → Option Span → Property
property_of e None = unnamed e
property_of e (Some s) = prop_name e s

-- what is ahead is the first of ps, and the others are read behind it
pub record PropertyAt (f : ℕ) (text t : List ℕ) (ps : List Property) (u : ℕ) (x : Ahead) : Type 0 where
  pub turns : ℕ
  pub fewer : f ≡ suc turns
  pub rest : List Property
  pub size : ℕ
  pub reads : properties_at turns text x.behind.now ≡ done rest size
  pub is : ps ≡ property_of x.value x.name ∷ rest
  pub used : u + length x.behind.now ≡ length t + size

-- the first of the properties that t is read as, or their end
unfoldable pub NextIs : ℕ → List ℕ → List ℕ → List Property → ℕ → Option Ahead → Type 0
NextIs f text t ps u (Some x) = PropertyAt f text t ps u x
NextIs f text t ps u None = (ps ≡ []) × (u ≡ 1) × (1 ≤ length t)

abbrev pub Shorter : List ℕ → Option Ahead → Type 0
Shorter t (Some x) = length x.behind.now < length t
Shorter t None = Unit {0}
