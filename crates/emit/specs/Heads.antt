-- What stands in front of the element or fragment on a root tape, and where that stands.
use Rattle.std.specs.Prelude.{◌≡◌, Bool, true, false, List, Ok, ℕ, ◌≤◌, length, drop}
use Rattle.commands.specs.declared.root.Place.{Place}
use Rattle.commands.specs.declared.root.ScopeKind.{ScopeKind}
use Rattle.commands.specs.declared.root.ScopeKind.TheVariants as kind
use Rattle.commands.specs.declared.root.ScopeCommand.TheVariants as scopes
use Rattle.commands.specs.Root.{scope_command}
use Rattle.definitions.specs.Judging.{done}
use Rattle.definitions.specs.Tree.{Node, Root}
use Rattle.definitions.specs.Reading.{Scoped, opened, element_at, fragment_at}
use Rattle.definitions.specs.Lowering.{inside_constructor, can_add_self}
use Rattle.emit.specs.declared.used.Used.{Used}

abbrev pub is_constructor : ScopeKind → Bool
is_constructor kind.Block = false
is_constructor kind.Arrow = false
is_constructor kind.Constructor = true
is_constructor kind.Function = false

-- the element or fragment n at the front of t, read with turns enough
pub data NodeAt (text t : List ℕ) (n : Node) : Type 0 where
  element_headed : (p : Place) (f u : ℕ) → length t ≤ f → scope_command true t ≡ Ok (scopes.Element p)
      → opened 0 p (element_at f text 0 p (drop 9 t)) ≡ done n u → NodeAt text t n
  fragment_headed : (p : Place) (f u : ℕ) → length t ≤ f → scope_command true t ≡ Ok (scopes.Fragment p)
      → opened 0 p (fragment_at f text 0 p (drop 9 t)) ≡ done n u → NodeAt text t n

-- the scopes of s, which begin t
pub record ScopesOf (text t : List ℕ) (s : Scoped) (r : Used Bool) : Type 0 where
  pub inside : r.value ≡ inside_constructor s.kinds
  pub node : NodeAt text (drop r.used t) s.node

-- the head of the root o, which begins t
pub record HeadOf (text t : List ℕ) (o : Root) (r : Used Bool) : Type 0 where
  pub allowed : r.value ≡ can_add_self o
  pub node : NodeAt text (drop r.used t) o.node
