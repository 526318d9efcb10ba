-- Packing and unpacking are inverse to each other (specs, Inverse).
--     unpacked_packed      a state comes back from its bytes
--     packed_unpacked      bytes that are taken for a state's are that state's bytes
-- Assumes nothing.
use Rattle.std.specs.Prelude.{None, Option, Some}
use Rattle.text.specs.declared.spans.Span.{Span}
use mathlib.Core.Path.{◌≡◌, refl, sym, ap, subst, ◌∙◌}
use mathlib.Core.Logic.{⊎_elim, ◌⊎◌, inl, inr}
use mathlib.Core.Bool.{Bool, true, false, ◌&&◌, false≢true}
use mathlib.Core.List.{List, [], ◌∷◌, ◌++◌}
use Prim.Native.Nat.{ℕ, zero, suc, ◌+◌, ◌*◌, ◌/◌, ◌%◌, ◌^◌, ◌≤◌, ◌<◌}
use native.Mathlib.Omega.{arith}
use lib.ListN.{length, get_or, drop}
use lib.Dec.{eqb, ltb}
use borrow.Author.Tests.{eqb-true, ne_eqb, ltb-true, ltb-false}
use Rattle.tape.specs.Numbers.{u32_at, u64_at, u32_bytes, u64_bytes, span_bytes}
use Rattle.tape.proofs.ReadBack.{u32_small, u64_back, span_back}
use Rattle.definitions.specs.declared.options.Flags.{Flags}
use Rattle.definitions.specs.declared.options.Options.{Options}
use Rattle.definitions.specs.declared.options.Mode.{Mode}
use Rattle.definitions.specs.declared.options.Mode.TheVariants.{Module, Script, Classic}
use Rattle.definitions.specs.declared.options.PragmaRoot.{PragmaRoot}
use Rattle.definitions.specs.declared.options.PragmaRoot.TheVariants as root
use Rattle.definitions.specs.declared.options.Form.{Form}
use Rattle.definitions.specs.declared.options.Settings.{Settings}
use Rattle.definitions.specs.declared.records.Import.{Import}
use Rattle.definitions.specs.declared.records.Import.TheVariants.{Named, Default, FileName}
use Rattle.definitions.specs.declared.records.Record.{Record}
use Rattle.definitions.specs.declared.state.State.{State}
use Rattle.definitions.specs.Options.{flags_of, mode_number, mode_by, root_by}
use Rattle.definitions.specs.States.{root_number}
use Rattle.packing.specs.Packed.{weight, flags_byte, presence, span_of, optional_bytes, form_bytes, import_number, source_of, name_of, record_bytes, records_bytes, options_bytes, settings_bytes, packed, optional_of, optional_good, optional_at, good_optional, form_at, import_of, import_good, record_at, good_record, options_at, settings_at, records_at, state_at, good_options, good_settings, good_records, good, if_good, unpacked}
use Rattle.packing.specs.Inverse.{Back, Only}
use Rattle.packing.proofs.Bytes.{nothing, packed_length}

-- n elements of a list from place i on
unfoldable part : {A : Type 0} → A → List A → ℕ → ℕ → List A
part d l i zero = []
part d l i (suc n) = get_or l i d ∷ part d l (suc i) n

part_cons : {A : Type 0} (d : A) (a : A) (l : List A) (i n : ℕ) → part d (a ∷ l) (suc i) n ≡ part d l i n
unfolding part
part_cons d a l i zero = refl
part_cons d a l i (suc n) = ap (λ r. get_or l i d ∷ r) (part_cons d a l (suc i) n)

part_all : {A : Type 0} (d : A) (l : List A) → part d l 0 (length l) ≡ l
unfolding part
part_all d [] = refl
part_all d (a ∷ l) = ap (λ r. a ∷ r) (part_cons d a l 0 (length l) ∙ part_all d l)

-- ---- a part from its bytes

weight_small : (b : Bool) → weight b ≤ 1
unfolding weight
weight_small true = omega arith
weight_small false = omega arith

weight_back : (b : Bool) (n : ℕ) → n ≡ weight b → eqb n 1 ≡ b
unfolding weight
weight_back true n e = rw e
weight_back false n e = rw e

flags_back : (f : Flags) → flags_of (flags_byte f) ≡ f
unfolding flags_of flags_byte
flags_back f =
    let a = weight_small f.jsx_plugin in
    let b = weight_small f.self_plugin in
    let c = weight_small f.source_plugin in
    let d = weight_small f.classic in
    let e = weight_small f.development in
    let g = weight_small f.throw_if_namespace in
    let h = weight_small f.pure in
    let i = weight_small f.«module» in
    λ ι. record {
      jsx_plugin = weight_back f.jsx_plugin (flags_byte f / 2 ^ 0 % 2) (omega (arith, a, b, c, d, e, g, h, i)) ι;
      self_plugin = weight_back f.self_plugin (flags_byte f / 2 ^ 1 % 2) (omega (arith, a, b, c, d, e, g, h, i)) ι;
      source_plugin = weight_back f.source_plugin (flags_byte f / 2 ^ 2 % 2) (omega (arith, a, b, c, d, e, g, h, i)) ι;
      classic = weight_back f.classic (flags_byte f / 2 ^ 3 % 2) (omega (arith, a, b, c, d, e, g, h, i)) ι;
      development = weight_back f.development (flags_byte f / 2 ^ 4 % 2) (omega (arith, a, b, c, d, e, g, h, i)) ι;
      throw_if_namespace = weight_back f.throw_if_namespace (flags_byte f / 2 ^ 5 % 2) (omega (arith, a, b, c, d, e, g, h, i)) ι;
      pure = weight_back f.pure (flags_byte f / 2 ^ 6 % 2) (omega (arith, a, b, c, d, e, g, h, i)) ι;
      «module» = weight_back f.«module» (flags_byte f / 2 ^ 7 % 2) (omega (arith, a, b, c, d, e, g, h, i)) ι;
    }

optional_back : (o : Option Span) → optional_at (optional_bytes o) 0 ≡ o
unfolding optional_of optional_bytes presence span_of
optional_back None = refl
optional_back (Some s) = ap Some (span_back s [])

optional_good_always : (o : Option Span) → good_optional (optional_bytes o) 0 ≡ true
unfolding optional_good optional_bytes presence span_of
optional_good_always None = refl
optional_good_always (Some s) = refl

mode_back : (m : Mode) → mode_by (mode_number m) ≡ m
unfolding mode_by mode_number
mode_back Module = refl
mode_back Script = refl
mode_back Classic = refl

mode_good : (m : Mode) → ltb (mode_number m) 3 ≡ true
unfolding mode_number
mode_good Module = refl
mode_good Script = refl
mode_good Classic = refl

root_back : (r : PragmaRoot) → root_by (root_number r) ≡ r
unfolding root_by root_number
root_back root.Default = refl
root_back root.This = refl
root_back root.ImportMeta = refl
root_back root.Identifier = refl

root_good : (r : PragmaRoot) → ltb (root_number r) 4 ≡ true
unfolding root_number
root_good root.Default = refl
root_good root.This = refl
root_good root.ImportMeta = refl
root_good root.Identifier = refl

weight_good : (b : Bool) → ltb (weight b) 2 ≡ true
unfolding weight
weight_good true = refl
weight_good false = refl

import_back : (i : Import) → import_of (import_number i) (source_of i) (name_of i) ≡ i
unfolding import_of import_number source_of name_of
import_back (Named s n) = refl
import_back (Default s) = refl
import_back FileName = refl

import_good_always : (i : Import) → import_good (import_number i) (source_of i) (name_of i) ≡ true
unfolding import_good import_number source_of name_of
import_good_always (Named s n) = refl
import_good_always (Default s) = refl
import_good_always FileName = refl

-- ---- a state from its bytes

form_back : (f : Form) → form_at (form_bytes f) 0 ≡ f
unfolding form_bytes
form_back f = λ ι. record { root = root_back f.root ι; tail = u64_back f.tail [] ι }

record_back : (r : Record) → record_at (record_bytes r) 0 ≡ r
unfolding record_bytes
record_back r = λ ι. record { import = import_back r.import ι; binding = r.binding }

options_back : (o : Options) (t : List ℕ) → options_at (options_bytes o ++ t) ≡ o
unfolding options_at options_bytes optional_bytes
options_back o t =
    λ ι. record {
      flags = flags_back o.flags ι;
      pragma = optional_back o.pragma ι;
      pragma_frag = optional_back o.pragma_frag ι;
      import_source = optional_back o.import_source ι;
      ts_pragma = optional_back o.ts_pragma ι;
      ts_pragma_frag = optional_back o.ts_pragma_frag ι;
    }

options_good : (o : Options) (t : List ℕ) → good_options (options_bytes o ++ t) ≡ true
unfolding good_options options_bytes optional_bytes
options_good o t =
    λ ι. optional_good_always o.pragma ι
    && optional_good_always o.pragma_frag ι
    && optional_good_always o.import_source ι
    && optional_good_always o.ts_pragma ι
    && optional_good_always o.ts_pragma_frag ι

-- a state whose record array is written out
module _ (s : Settings) (a b c d e f g h : Record) (count calls notices : ℕ) where
  abbrev spelled : State
  spelled = record { settings = s; records = a ∷ b ∷ c ∷ d ∷ e ∷ f ∷ g ∷ h ∷ []; count = count; calls = calls; notices = notices }

  settings_back : settings_at (packed spelled) ≡ s
  unfolding packed settings_at settings_bytes options_bytes optional_bytes form_bytes
  settings_back =
      λ ι. record {
        options = options_back s.options (drop 26 (packed spelled)) ι;
        pure = weight_back s.pure (weight s.pure) refl ι;
        mode = mode_back s.mode ι;
        pragma = form_back s.pragma ι;
        pragma_frag = form_back s.pragma_frag ι;
      }

  state_back : state_at (packed spelled) ≡ spelled
  unfolding packed state_at records_at settings_bytes options_bytes optional_bytes form_bytes records_bytes record_bytes
  state_back =
      λ ι. record {
        settings = settings_back ι;
        records =
            record_back a ι
            ∷ record_back b ι
            ∷ record_back c ι
            ∷ record_back d ι
            ∷ record_back e ι
            ∷ record_back f ι
            ∷ record_back g ι
            ∷ record_back h ι
            ∷ [];
        count = u64_back count [] ι;
        calls = u64_back calls [] ι;
        notices = u64_back notices [] ι;
      }

  state_good : good (packed spelled) ≡ true
  unfolding packed good good_settings good_records settings_bytes options_bytes optional_bytes form_bytes records_bytes record_bytes
  state_good =
      λ ι. options_good s.options (drop 26 (packed spelled)) ι
      && (weight_good s.pure ι && mode_good s.mode ι && root_good s.pragma.root ι && root_good s.pragma_frag.root ι)
      && (import_good_always a.import ι
      && import_good_always b.import ι
      && import_good_always c.import ι
      && import_good_always d.import ι
      && import_good_always e.import ι
      && import_good_always f.import ι
      && import_good_always g.import ι
      && import_good_always h.import ι)

  spelled_back : unpacked (packed spelled) ≡ Some spelled
  unfolding unpacked
  spelled_back = rw (packed_length spelled refl, state_good, state_back)

pub unpacked_packed : Back
unfolding part
unpacked_packed s e =
    let rs = s.records in
    let all : part nothing rs 0 8 ≡ rs = ap (λ (n : ℕ). part nothing rs 0 n) (sym e) ∙ part_all nothing rs in
    let same : record { settings = s.settings; records = part nothing rs 0 8; count = s.count; calls = s.calls; notices = s.notices } ≡ s =
    λ ι. record { settings = s.settings; records = all ι; count = s.count; calls = s.calls; notices = s.notices } in
    subst (λ (t : State). unpacked (packed t) ≡ Some t) same
    (back s.settings rs s.count s.calls s.notices)
  where
    back : (v : Settings) (rs : List Record) (count calls notices : ℕ)
        → unpacked (packed (record { settings = v; records = part nothing rs 0 8; count = count; calls = calls; notices = notices }))
        ≡ Some (record { settings = v; records = part nothing rs 0 8; count = count; calls = calls; notices = notices })
    back v rs count calls notices =
        spelled_back v (get_or rs 0 nothing) (get_or rs 1 nothing) (get_or rs 2 nothing) (get_or rs 3 nothing) (get_or rs 4 nothing) (get_or rs 5 nothing)
        (get_or rs 6 nothing) (get_or rs 7 nothing) count calls notices

-- ---- the bytes of a part that was read

both : (b c : Bool) → b && c ≡ true → (b ≡ true) × (c ≡ true)
both true c e = (refl, e)
both false c e = absurd (false≢true e)

u32_fore : (a b c d : ℕ) → a < 256 → b < 256 → c < 256 → u32_bytes (a + b * 256 + c * 65536 + d * 16777216) ≡ a ∷ b ∷ c ∷ d ∷ []
u32_fore a b c d ha hb hc =
    let x = a + b * 256 + c * 65536 + d * 16777216 in
    let p : x % 256 ≡ a = omega arith in
    let y : x / 256 ≡ b + c * 256 + d * 65536 = omega arith in
    let z : x / 65536 ≡ c + d * 256 = omega arith in
    let q : (b + c * 256 + d * 65536) % 256 ≡ b = omega arith in
    let r : (c + d * 256) % 256 ≡ c = omega arith in
    let s : x / 16777216 ≡ d = omega arith in
    λ ι. p ι ∷ (ap (λ (n : ℕ). n % 256) y ∙ q) ι ∷ (ap (λ (n : ℕ). n % 256) z ∙ r) ι ∷ s ι ∷ []

weight_fore : (n : ℕ) → ltb n 2 ≡ true → weight (eqb n 1) ≡ n
unfolding weight
weight_fore zero h = refl
weight_fore (suc zero) h = refl
weight_fore (suc (suc n)) h = absurd (omega (arith, ltb-true (suc (suc n)) 2 h))

-- of the numbers below a bound, one by one
unfoldable flags_kept : ℕ → Bool
flags_kept zero = true
flags_kept (suc n) = eqb (flags_byte (flags_of n)) n && flags_kept n

flags_kept_back : (k n : ℕ) → flags_kept k ≡ true → n < k → flags_byte (flags_of n) ≡ n
unfolding flags_kept
flags_kept_back zero n e h = absurd (omega arith)
flags_kept_back (suc k) n e h =
    let z = both (eqb (flags_byte (flags_of k)) k) (flags_kept k) e in
    ⊎_elim (λ l. flags_kept_back k n z.1 l) (λ p. rw p (eqb-true (flags_byte (flags_of k)) k z.0)) (below k n h)
  where
    below : (k n : ℕ) → n < suc k → (n < k) ⊎ (n ≡ k)
    below k n h = go (ltb n k) refl
      where
        go : (b : Bool) → ltb n k ≡ b → (n < k) ⊎ (n ≡ k)
        go true e = inl (ltb-true n k e)
        go false e = inr (omega (arith, ltb-false n k e))

flags_fore : (n : ℕ) → n < 256 → flags_byte (flags_of n) ≡ n
unfolding flags_kept flags_byte flags_of weight
flags_fore n h = flags_kept_back 256 n table h
  where
    table : flags_kept 256 ≡ true
    table = refl

mode_fore : (n : ℕ) → ltb n 3 ≡ true → mode_number (mode_by n) ≡ n
unfolding mode_number mode_by
mode_fore zero h = refl
mode_fore (suc zero) h = refl
mode_fore (suc (suc zero)) h = refl
mode_fore (suc (suc (suc n))) h = absurd (omega (arith, ltb-true (suc (suc (suc n))) 3 h))

root_fore : (n : ℕ) → ltb n 4 ≡ true → root_number (root_by n) ≡ n
unfolding root_number root_by
root_fore zero h = refl
root_fore (suc zero) h = refl
root_fore (suc (suc zero)) h = refl
root_fore (suc (suc (suc zero))) h = refl
root_fore (suc (suc (suc (suc n)))) h = absurd (omega (arith, ltb-true (suc (suc (suc (suc n)))) 4 h))

span_fore : (a b c d : ℕ) → a < 256 → c < 256 → span_bytes (record { start = a + b * 256; len = c + d * 256 }) ≡ a ∷ b ∷ c ∷ d ∷ []
span_fore a b c d ha hc =
    let p : (a + b * 256) % 256 ≡ a = omega arith in
    let q : (a + b * 256) / 256 ≡ b = omega arith in
    let r : (c + d * 256) % 256 ≡ c = omega arith in
    let s : (c + d * 256) / 256 ≡ d = omega arith in
    λ ι. p ι ∷ q ι ∷ r ι ∷ s ι ∷ []

optional_fore : (n a b c d : ℕ) → a < 256 → c < 256 → optional_good n (record { start = a + b * 256; len = c + d * 256 }) ≡ true
    → optional_bytes (optional_of n (record { start = a + b * 256; len = c + d * 256 })) ≡ n ∷ a ∷ b ∷ c ∷ d ∷ []
unfolding optional_good optional_of optional_bytes presence span_of
optional_fore zero a b c d ha hc e =
    let z = both (eqb (a + b * 256) 0) (eqb (c + d * 256) 0) e in
    let x = eqb-true (a + b * 256) 0 z.0 in
    let y = eqb-true (c + d * 256) 0 z.1 in
    let p : 0 ≡ a = omega (arith, x) in
    let q : 0 ≡ b = omega (arith, x) in
    let r : 0 ≡ c = omega (arith, y) in
    let s : 0 ≡ d = omega (arith, y) in
    λ ι. 0 ∷ p ι ∷ q ι ∷ r ι ∷ s ι ∷ []
optional_fore (suc zero) a b c d ha hc e = ap (λ (l : List ℕ). 1 ∷ l) (span_fore a b c d ha hc)
optional_fore (suc (suc n)) a b c d ha hc e = absurd (omega (arith, eqb-true (suc (suc n)) 1 (rw (ne_eqb (suc (suc n)) 0 (omega arith)) at e)))

record_fore : (k s n b : ℕ) → import_good k s n ≡ true → record_bytes (record { import = import_of k s n; binding = b }) ≡ k ∷ s ∷ n ∷ b ∷ []
unfolding import_good import_of record_bytes import_number source_of name_of
record_fore zero s n b e = refl
record_fore (suc zero) s n b e = let z : 0 ≡ n = sym (eqb-true n 0 e) in λ ι. 1 ∷ s ∷ z ι ∷ b ∷ []
record_fore (suc (suc zero)) s n b e =
    let z = both (eqb s 0) (eqb n 0) e in
    let p = sym (eqb-true s 0 z.0) in
    let q = sym (eqb-true n 0 z.1) in
    λ ι. 2 ∷ p ι ∷ q ι ∷ b ∷ []
record_fore (suc (suc (suc k))) s n b e =
    let j = suc (suc (suc k)) in
    absurd (omega (arith, eqb-true j 2 (both (eqb j 2) (eqb s 0 && eqb n 0) (rw (ne_eqb j 0 (omega arith), ne_eqb j 1 (omega arith)) at e)).0))

-- ---- the bytes of a state that was read

u64_fore : (l h : ℕ) → l < 4294967296 → u64_bytes (l + h * 4294967296) ≡ u32_bytes l ++ u32_bytes h
u64_fore l h k =
    let p : (l + h * 4294967296) % 4294967296 ≡ l = omega arith in
    let q : (l + h * 4294967296) / 4294967296 ≡ h = omega arith in
    λ ι. u32_bytes (p ι) ++ u32_bytes (q ι)

module _ (t : List ℕ) (bytes : (k : ℕ) → get_or t k 0 < 256) where
  u32_part : (i : ℕ) → u32_bytes (u32_at t i) ≡ get_or t i 0 ∷ get_or t (i + 1) 0 ∷ get_or t (i + 2) 0 ∷ get_or t (i + 3) 0 ∷ []
  u32_part i = u32_fore (get_or t i 0) (get_or t (i + 1) 0) (get_or t (i + 2) 0) (get_or t (i + 3) 0) (bytes i) (bytes (i + 1)) (bytes (i + 2))

  u64_part : (i : ℕ) → u64_bytes (u64_at t i)
      ≡ (get_or t i 0 ∷ get_or t (i + 1) 0 ∷ get_or t (i + 2) 0 ∷ get_or t (i + 3) 0 ∷ [])
      ++ (get_or t (i + 4) 0 ∷ get_or t (i + 4 + 1) 0 ∷ get_or t (i + 4 + 2) 0 ∷ get_or t (i + 4 + 3) 0 ∷ [])
  u64_part i = u64_fore (u32_at t i) (u32_at t (i + 4)) (u32_small t bytes i) ∙ (λ ι. u32_part i ι ++ u32_part (i + 4) ι)

  optional_part : (i : ℕ) → good_optional t i ≡ true
      → optional_bytes (optional_at t i) ≡ get_or t i 0 ∷ get_or t (i + 1) 0 ∷ get_or t (i + 1 + 1) 0 ∷ get_or t (i + 1 + 2) 0 ∷ get_or t (i + 1 + 2 + 1) 0 ∷ []
  optional_part i e =
      optional_fore (get_or t i 0) (get_or t (i + 1) 0) (get_or t (i + 1 + 1) 0) (get_or t (i + 1 + 2) 0) (get_or t (i + 1 + 2 + 1) 0) (bytes (i + 1)) (bytes (i + 1 + 2)) e

  record_part : (i : ℕ) → good_record t i ≡ true → record_bytes (record_at t i) ≡ get_or t i 0 ∷ get_or t (i + 1) 0 ∷ get_or t (i + 2) 0 ∷ get_or t (i + 3) 0 ∷ []
  record_part i e = record_fore (get_or t i 0) (get_or t (i + 1) 0) (get_or t (i + 2) 0) (get_or t (i + 3) 0) e

  state_part : good t ≡ true → packed (state_at t) ≡ part 0 t 0 102
  unfolding part packed state_at records_at settings_at options_at settings_bytes options_bytes form_bytes records_bytes good good_options good_settings good_records
  state_part e =
      let halves = both (good_options t && good_settings t) (good_records t) e in
      let front = both (good_options t) (good_settings t) halves.0 in
      let o4 = both (good_optional t 1 && good_optional t 6 && good_optional t 11 && good_optional t 16) (good_optional t 21) front.0 in
      let o3 = both (good_optional t 1 && good_optional t 6 && good_optional t 11) (good_optional t 16) o4.0 in
      let o2 = both (good_optional t 1 && good_optional t 6) (good_optional t 11) o3.0 in
      let o1 = both (good_optional t 1) (good_optional t 6) o2.0 in
      let s3 = both (ltb (get_or t 26 0) 2 && ltb (get_or t 27 0) 3 && ltb (get_or t 28 0) 4) (ltb (get_or t 37 0) 4) front.1 in
      let s2 = both (ltb (get_or t 26 0) 2 && ltb (get_or t 27 0) 3) (ltb (get_or t 28 0) 4) s3.0 in
      let s1 = both (ltb (get_or t 26 0) 2) (ltb (get_or t 27 0) 3) s2.0 in
      let r7 = both
      (good_record t 46 && good_record t 50 && good_record t 54 && good_record t 58 && good_record t 62 && good_record t 66 && good_record t 70)
      (good_record t 74) halves.1 in
      let r6 = both (good_record t 46 && good_record t 50 && good_record t 54 && good_record t 58 && good_record t 62 && good_record t 66) (good_record t 70) r7.0 in
      let r5 = both (good_record t 46 && good_record t 50 && good_record t 54 && good_record t 58 && good_record t 62) (good_record t 66) r6.0 in
      let r4 = both (good_record t 46 && good_record t 50 && good_record t 54 && good_record t 58) (good_record t 62) r5.0 in
      let r3 = both (good_record t 46 && good_record t 50 && good_record t 54) (good_record t 58) r4.0 in
      let r2 = both (good_record t 46 && good_record t 50) (good_record t 54) r3.0 in
      let r1 = both (good_record t 46) (good_record t 50) r2.0 in
      λ ι.
      ((flags_fore (get_or t 0 0) (bytes 0) ι ∷ [])
      ++ optional_part 1 o1.0 ι
      ++ optional_part 6 o1.1 ι
      ++ optional_part 11 o2.1 ι
      ++ optional_part 16 o3.1 ι
      ++ optional_part 21 o4.1 ι
      ++ (weight_fore (get_or t 26 0) s1.0 ι ∷ mode_fore (get_or t 27 0) s1.1 ι ∷ [])
      ++ (root_fore (get_or t 28 0) s2.1 ι ∷ u64_part 29 ι)
      ++ (root_fore (get_or t 37 0) s3.1 ι ∷ u64_part 38 ι))
      ++ (record_part 46 r1.0 ι
      ++ (record_part 50 r1.1 ι
      ++ (record_part 54 r2.1 ι
      ++ (record_part 58 r3.1 ι
      ++ (record_part 62 r4.1 ι
      ++ (record_part 66 r5.1 ι
      ++ (record_part 70 r6.1 ι
      ++ (record_part 74 r7.1 ι ++ []))))))))
      ++ u64_part 78 ι
      ++ u64_part 86 ι
      ++ u64_part 94 ι

  only : (s : State) → unpacked t ≡ Some s → packed s ≡ t
  unfolding unpacked
  only s e = go (eqb (length t) 102 && good t) refl e
    where
      go : (b : Bool) → eqb (length t) 102 && good t ≡ b → if_good b (state_at t) ≡ Some s → packed s ≡ t
      go true h e =
          let z = both (eqb (length t) 102) (good t) h in
          let q : state_at t ≡ s = cc in
          ap packed (sym q) ∙ state_part z.1 ∙ ap (λ (n : ℕ). part 0 t 0 n) (sym (eqb-true (length t) 102 z.0)) ∙ part_all 0 t
      go false h e = let z : ◌≡◌ {A = ℕ} 0 1 = cc in absurd (omega arith)

pub packed_unpacked : Only
packed_unpacked t bytes s e = only t bytes s e
