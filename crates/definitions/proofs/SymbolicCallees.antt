-- Callees read off commands that name bindings by what they are, and output that can be read in parts.
--     callee_for, callee_after, callees_of  the callees of commands
--     Reads                                 an output of which the callees are these, whatever follows
--     ◌joined◌, ◌onward◌, ◌still◌           parts that read make a whole that reads
--     closing_reads                         the end of a call reads as its callee
-- Assumes nothing.
use mathlib.Core.Path.{◌≡◌, refl, sym, ap, subst, ◌∙◌}
use mathlib.Core.Bool.{Bool, true, false, cond, not, ◌&&◌}
use mathlib.Core.List.{List, [], ◌∷◌, ◌++◌, map, map-append, append-nil, append_assoc}
use Prim.Native.Nat.{ℕ}
use Rattle.commands.specs.declared.root.Place.{Place}
use Rattle.definitions.specs.declared.options.Mode.{Mode}
use Rattle.definitions.specs.declared.options.Mode.TheVariants.{Module, Script, Classic}
use Rattle.definitions.specs.declared.records.Import.{Import}
use Rattle.definitions.specs.declared.records.Import.TheVariants.{Named, Default, FileName}
use Rattle.definitions.specs.Calls.{Command, bare, byte, over, span, binding, source, bare_code, byte_code}
use Rattle.definitions.specs.Calls as call
use Rattle.definitions.specs.Store.{numbered}
use Rattle.definitions.specs.Callees.{Callee, callee_named, name_behind, is_callee}
use Rattle.definitions.specs.Lowering.{Context, Output, emit, notify, put, put_byte, imported, source_output, is_classic, pure_byte, closing, commands_of}
use Rattle.definitions.proofs.Counting.{never}
use Rattle.definitions.proofs.Plain.{plain, plain_command, Plain, plain_put, plain_byte, commands_append}

-- ---- callees of commands

-- the callee that a binding is, with the name that may follow
unfoldable pub callee_for : Import → ℕ → List Callee
callee_for (Named s m) n = record { source = s; name = m } ∷ []
callee_for (Default s) n = record { source = s; name = n } ∷ []
callee_for FileName n = []

-- the name behind a binding does not depend on numbers
abbrev pub name_after : List (Command Import) → ℕ
name_after cs = name_behind (map (numbered []) cs)

unfoldable pub callee_after : List (Command Import) → List Callee
callee_after [] = []
callee_after (bare c ∷ cs) = []
callee_after (byte c n ∷ cs) = []
callee_after (over c e ∷ cs) = []
callee_after (span c s ∷ cs) = []
callee_after (binding i ∷ cs) = callee_for i (name_after cs)
callee_after (source i p ∷ cs) = []

unfoldable pub callees_of : List (Command Import) → List Callee
callees_of [] = []
callees_of (bare c ∷ cs) = cond (is_callee c) (callee_after cs) [] ++ callees_of cs
callees_of (byte c n ∷ cs) = callees_of cs
callees_of (over c e ∷ cs) = callees_of cs
callees_of (span c s ∷ cs) = callees_of cs
callees_of (binding i ∷ cs) = callees_of cs
callees_of (source i p ∷ cs) = callees_of cs

-- ---- output in parts

pub record Reads (os : List Output) (ns : List ℕ) : Type 0 where
  pub so : (rest : List (Command Import)) → callees_of (commands_of os ++ rest) ≡ map callee_named ns ++ callees_of rest

infixl 20 ◌joined◌
infixl 20 ◌still◌
infixl 20 ◌onward◌
pub ◌joined◌ : {xs ys : List Output} {ns ms : List ℕ} → Reads xs ns → Reads ys ms → Reads (xs ++ ys) (ns ++ ms)
◌joined◌ {xs} {ys} {ns} {ms} h k =
    record {
      so = λ rest.
          rw (
            commands_append xs ys,
            append_assoc (commands_of xs) (commands_of ys) rest,
            map-append callee_named ns ms,
            append_assoc
                (map callee_named ns) (map callee_named ms) (callees_of rest),
          )
          (h.so (commands_of ys ++ rest) ∙ ap (λ (l : List Callee). map callee_named ns ++ l) (k.so rest));
    }

plain_so : (os : List Output) → plain os ≡ true → (rest : List (Command Import)) → callees_of (commands_of os ++ rest) ≡ callees_of rest
unfolding plain plain_command commands_of callees_of
plain_so [] h rest = refl
plain_so (emit (bare c) ∷ os) h rest = go (is_callee c) h (plain_so os)
  where
    go : (b : Bool) → (not b && plain os) ≡ true
        → (plain os ≡ true → (rest : List (Command Import)) → callees_of (commands_of os ++ rest) ≡ callees_of rest)
        → cond b (callee_after (commands_of os ++ rest)) [] ++ callees_of (commands_of os ++ rest) ≡ callees_of rest
    go true h ih = never h
    go false h ih = ih h rest
plain_so (emit (byte c n) ∷ os) h rest = plain_so os h rest
plain_so (emit (over c e) ∷ os) h rest = plain_so os h rest
plain_so (emit (span c s) ∷ os) h rest = plain_so os h rest
plain_so (emit (binding i) ∷ os) h rest = never h
plain_so (emit (source i p) ∷ os) h rest = never h
plain_so (notify n ∷ os) h rest = plain_so os h rest

pub plain_reads : {os : List Output} → Plain os → Reads os []
plain_reads {os} h = record { so = plain_so os h.so }

-- plain output behind, and before
pub ◌still◌ : {xs ys : List Output} {ns : List ℕ} → Reads xs ns → Plain ys → Reads (xs ++ ys) ns
◌still◌ {xs} {ys} {ns} h k = subst (Reads (xs ++ ys)) (append-nil ns) (h joined plain_reads k)

pub ◌onward◌ : {xs ys : List Output} {ns : List ℕ} → Plain xs → Reads ys ns → Reads (xs ++ ys) ns
◌onward◌ h k = plain_reads h joined k

pub quiet_onward : {xs ys : List Output} {ns : List ℕ} → Reads xs ns → Reads ys [] → Reads (xs ++ ys) ns
quiet_onward {xs} {ys} {ns} h k = subst (Reads (xs ++ ys)) (append-nil ns) (h joined k)

pub choose : {xs ys : List Output} {ns : List ℕ} (b : Bool) → Reads xs ns → Reads ys ns → Reads (cond b xs ys) ns
choose true h k = h
choose false h k = k

-- ---- `__source` and the end of a call

pub source_reads : (c : Context) (p : Place) → Reads (source_output c p) []
unfolding source_output commands_of callees_of
source_reads c p = choose c.settings.options.flags.source_plugin (record { so = λ rest. refl }) (record { so = λ rest. refl })

pub tag_reads : (m : Mode) (n k : ℕ) → Reads (imported m n k) []
unfolding imported commands_of callees_of
tag_reads Module n k = record { so = λ rest. refl }
tag_reads Script n k = record { so = λ rest. refl }
tag_reads Classic n k = record { so = λ rest. refl }

-- 9F and the callee
callee_reads : (m : Mode) (n : ℕ) → is_classic m ≡ false → Reads (put call.Callee ++ imported m n 0) (n ∷ [])
unfolding imported commands_of callees_of callee_after callee_for bare_code byte_code is_classic name_behind numbered
callee_reads Module n e = record { so = λ rest. refl }
callee_reads Script n e = record { so = λ rest. refl }
callee_reads Classic n e = never (sym e)

pub closing_reads : (c : Context) {tag : List Output} (n : ℕ) → is_classic c.settings.mode ≡ false → Reads tag [] → Reads (closing c tag n) (n ∷ [])
unfolding bare_code
closing_reads c {tag} n e h =
    subst (λ (l : List Output). Reads l (n ∷ []))
    (ap (λ (l : List Output). l ++ put_byte call.CallEnd (pure_byte c.settings.pure))
    (sym (append_assoc (put call.Tag ++ tag) (put call.Callee) (imported c.settings.mode n 0))))
    ((plain_put call.Tag refl onward h) joined callee_reads c.settings.mode n e still plain_byte call.CallEnd (pure_byte c.settings.pure))
