-- A name by its command (`name_at` of definitions, Reading).
--     name_plain, name_identifier, name_this, name_namespaced     what was read where the command stands
--     name_error                                                  where nothing can be read
-- Assumes nothing.
use Rattle.std.specs.Prelude.{Ok, Err}
use mathlib.Core.Path.{◌≡◌}
use mathlib.Core.List.{List}
use Prim.Native.Nat.{ℕ}
use lib.ListN.{drop}
use Rattle.text.specs.declared.spans.Span.{Span}
use Rattle.text.specs.Spans.{bounds_of}
use Rattle.commands.specs.declared.error.CommandError.{CommandError}
use Rattle.commands.specs.declared.root.NameCommand.TheVariants as command
use Rattle.commands.specs.Root.{name_command}
use Rattle.definitions.specs.Judging.{done, map, from, named, worse}
use Rattle.definitions.specs.Tree.{Name, plain, identifier, this, namespaced}
use Rattle.definitions.specs.Reading.{members_at, name_by, name_at}
use Rattle.emit.proofs.Readings.{stopped, named_done, map_done, from_done}

module _ (f : ℕ) (text t : List ℕ) (n : Name) (u : ℕ) where
  -- a name with properties, which begin k bytes into t
  pub record WithMembers (make : List Span → Name) (k : ℕ) : Type 0 where
    pub members : List Span
    pub size : ℕ
    pub is : make members ≡ n
    pub reads : members_at f text (drop k t) ≡ done members size

  with_members : (make : List Span → Name) (k : ℕ) → map make (from k (members_at f text (drop k t))) ≡ done n u → WithMembers make k
  with_members make k e =
      let m = map_done make (from k (members_at f text (drop k t))) e in
      let r = from_done k (members_at f text (drop k t)) m.1 in
      record { members = m.0; size = r.0; is = m.2; reads = r.1 }

  module _ (e : name_at f text t ≡ done n u) where
    pub name_plain : (s : Span) → name_command t ≡ Ok (command.Plain s) → plain s ≡ n
    unfolding name_at name_by
    name_plain s q =
        let d : named (bounds_of text s) (done (plain s) 5) ≡ done n u = rw q at e in
        let g : done (plain s) 5 ≡ done n u = named_done (bounds_of text s) (done (plain s) 5) d in
        cc

    pub name_identifier : (s : Span) → name_command t ≡ Ok (command.Identifier s) → WithMembers (identifier s) 5
    unfolding name_at name_by
    name_identifier s q =
        let d : named (bounds_of text s) (map (identifier s) (from 5 (members_at f text (drop 5 t)))) ≡ done n u = rw q at e in
        with_members (identifier s) 5 (named_done (bounds_of text s) (map (identifier s) (from 5 (members_at f text (drop 5 t)))) d)

    pub name_this : name_command t ≡ Ok command.This → WithMembers this 1
    unfolding name_at name_by
    name_this q = with_members this 1 (rw q at e)

    pub name_namespaced : (s r : Span) → name_command t ≡ Ok (command.Namespaced s r) → namespaced s r ≡ n
    unfolding name_at name_by
    name_namespaced s r q =
        let d : named (worse (bounds_of text s) (bounds_of text r)) (done (namespaced s r) 9) ≡ done n u = rw q at e in
        let g : done (namespaced s r) 9 ≡ done n u = named_done (worse (bounds_of text s) (bounds_of text r)) (done (namespaced s r) 9) d in
        cc

    pub name_error : {A : Type 0} {x : CommandError} → name_command t ≡ Err x → A
    unfolding name_at name_by
    name_error q = stopped (rw q at e)
