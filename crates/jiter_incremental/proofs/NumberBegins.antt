-- A scalar begins in a chunk, or a number is read there, in an open container whatever that is in.
use Rattle.jiter_incremental.proofs.Words.{◌≡◌, ℕ, ◌+◌, ◌-◌, ◌<◌, ◌≤◌, true, false, List, [], ◌∷◌, ◌++◌, length, refl}
use Rattle.jiter_incremental.proofs.Words.{sym, subst, ◌==◌, Bool, arith, eqb-true, slice_index, slice_range, Vec}
use Rattle.jiter_incremental.proofs.Words.{Global, CowStr, Number, HoldsNumber, begins_decimal, PartialNumber, is_blank}
use Rattle.jiter_incremental.proofs.Words.{start_of, number_tree, text_view, Tree, owned_text, tree_as, BeginsHere}
use Rattle.jiter_incremental.proofs.Words.{HasTakenIn, NameBegins, any_bytes, between_tokens, in_scalar, with_byte}
use Rattle.jiter_incremental.proofs.Words.{AwaitsValue, IsAt, IsHere, ReadsAsBefore, Steps, after_level, ahead}
use Rattle.jiter_incremental.proofs.Words.{document, refused, AwaitsPart, IsContainer, IsPut, OpenFrame, begun, filled}
use Rattle.jiter_incremental.proofs.Words.{JsonValue, out-JsonValue, WordValue, Reader}
use Rattle.jiter_scan.specs.NumberWithin.{EndsWithin}
use Rattle.jiter_scan.specs.declared.errors.FaultKind.TheVariants as fault_of
use Rattle.jiter_steps.specs.declared.parse.Start.TheVariants as start
use Rattle.jiter_incremental.specs.Slot.{HasRoomAt, IsRoomy}
use Rattle.jiter_incremental.specs.declared.names.WordValue.TheVariants as name
use Rattle.jiter_incremental.specs.declared.reader.Awaits.TheVariants as awaits
use Rattle.jiter_incremental.specs.declared.reader.Token.TheVariants as token
use Rattle.jiter_incremental.proofs.Arms.{turned}
use Rattle.jiter_incremental.proofs.Documents.{follows-byte, known-as, refuses, taken-between}
use Rattle.jiter_incremental.proofs.Documents.Tokens.{decimal-starts, infinity-begins, infinity-first, name-denied}
use Rattle.jiter_incremental.proofs.Documents.Tokens.{nan-begins, number-begins, range-first}
use Rattle.jiter_incremental.proofs.Placing.{begins-there, number-put}
use Rattle.jiter_incremental.proofs.Slots.{filled-same}
use Rattle.jiter_incremental.proofs.Settling.{steps-here, steps-run}

-- The byte begins the one name or the other.
pub name-of : (c : ℕ) → start_of c ≡ start.Number → begins_decimal c ≡ false → (k : WordValue) × NameBegins k c
name-of c starts named = by (c == 78) refl where
  by : (b : Bool) → (c == 78) ≡ b → (k : WordValue) × NameBegins k c
  by true is = (name.NaN, subst (NameBegins name.NaN) (sym (eqb-true c 78 is)) nan-begins)
  by false is =
      (name.Infinity, subst (NameBegins name.Infinity) (sym (infinity-first c starts named is)) infinity-begins)

module _ (level : ℕ) (chunk : List ℕ) (i : Reader) (v : Tree) (h : IsHere level chunk i v)
    (none : i.token ≡ token.Nothing)
  where
    abbrev c : ℕ
    c = slice_index chunk i.at

    -- Nothing was taken: a copy of a number's bytes is no part of the document yet.
    pub stays-so : ahead i chunk i.at ≡ any_bytes → (n : PartialNumber) (s : Vec ℕ Global)
        → ReadsAsBefore level chunk i v (record i { number = n; buffer = s }) v
    stays-so free n s =
        let j = record i { number = n; buffer = s } in
        record {
          goes = λ t outer at r.
              let x = filled outer v in
              let d = document i x in
              let e = document j x in
              let b = taken-between any_bytes d t (subst (λ m. HasTakenIn m d t) free r.read) h.unset none in
              let o = between_tokens b.state in
              record {
                opened = o;
                known = known-as any_bytes d e t o (refl, refl, refl) b.known;
                held = λ unset. (none, b.left);
              };
          free = free;
          still = (refl, refl, refl, refl);
          depth = refl;
        }

    module _ (awaited : AwaitsValue level chunk i v) (other : is_blank c ≡ false) (low : level ≤ 200) where
      -- A name is refused where none is allowed.
      pub name-refused : (k : WordValue) → NameBegins k c → i.settings.allow_inf_nan ≡ false
          → Steps level chunk i v (refused i fault_of.ExpectedSomeValue (i.base + i.at)) v 1
      name-refused k begins off =
          let kind = fault_of.ExpectedSomeValue in
          let j = refused i kind (i.base + i.at) in
          steps-here level chunk i v j v h (refl, refl, refl, refl) refl
          (λ t outer at r.
          let d = document i (filled outer v) in
          let b = begins-there level chunk i v h none awaited other low t outer at r in
          let held = record d { value = record d.value { awaits = awaits.Value } } in
          let o = in_scalar b.0 (length t) in
          let known = known-as (with_byte c) held d t o (refl, refl, refl) b.1.known in
          refuses (with_byte c) any_bytes d t (c ∷ []) o kind d.position h.unset known (follows-byte c)
          (name-denied held k t c b.0 b.1 begins off))

      module _ (begins : begins_decimal c ≡ true) where
        -- A number that lies whole in the chunk is put there.
        pub whole-number : (k : CowStr Global) (number : Number) (x w : Tree) (e : ℕ) → EndsWithin chunk i.at number e
            → x ≡ tree_as owned_text (number_tree number) → IsPut level v (text_view i.key) x w
            → Steps level chunk i v (record (turned i (after_level level) i.depth k) { token = token.Nothing }) w
            (e - i.at)
        whole-number k number x w e ends is put =
            number-put level chunk i v h none awaited other k x w e low put
            (record { begins = begins; number = number; ends = ends; is = is })

        -- Else its bytes are kept.
        pub number-kept : (n : PartialNumber) (e : ℕ) → i.at < e → e ≤ length chunk
            → HoldsNumber n (slice_range chunk i.at e)
            → Steps level chunk i v (record i {
              begin = i.base + i.at;
              token = token.Number;
              awaits = awaits.Value;
              number = n;
            }) v (e - i.at)
        number-kept n e some within held =
            let k = record i { begin = i.base + i.at; token = token.Number; awaits = awaits.Value; number = n } in
            let end : i.at + (e - i.at) ≡ e = omega (arith, some) in
            steps-run level chunk i v k v h (e - i.at) (omega (arith, some)) (omega (arith, end, within))
            (refl, refl, refl, refl) refl
            (λ t outer at r.
            let d = document i (filled outer v) in
            let new = document k (filled outer v) in
            let b = begins-there level chunk i v h none awaited other low t outer at r in
            let was = record d { value = record d.value { awaits = awaits.Value } } in
            let first = record was { number = n } in
            let o = in_scalar b.0 (length t) in
            let there : BeginsHere c first t b.0 =
            record {
              known = known-as (with_byte c) was first t o (refl, refl, refl) b.1.known;
              left = b.1.left;
              low = b.1.low;
              unset = b.1.unset;
              position = b.1.position;
            } in
            let is = range-first chunk i.at e some within in
            let rest = slice_range chunk (i.at + 1) e in
            let all : HasTakenIn any_bytes new (t ++ c ∷ rest) =
            number-begins first new t c rest b.0 there (refl, refl, refl) refl refl
            refl refl (decimal-starts c begins) (subst (HoldsNumber n) is held) in
            subst (λ m. HasTakenIn any_bytes new (t ++ slice_range chunk i.at m)) (sym end)
            (subst (λ s. HasTakenIn any_bytes new (t ++ s)) (sym is) all))

-- A slot has room for a value where its container has.
pub room-there : (level : ℕ) (chunk : List ℕ) (i : Reader) (v : Tree) (slot : JsonValue) → IsHere level chunk i v
    → AwaitsValue level chunk i v → (IsContainer v → IsRoomy (out-JsonValue slot)) → HasRoomAt level slot
room-there level chunk i v slot h awaited room some =
    let outer = h.read.1 in
    let a = awaited.goes h.read.0 outer h.read.2 h.read.3 in
    room (by outer a.0 h.read.2 a.1.part)
  where
    by : (outer fs : List OpenFrame) → IsAt level outer → AwaitsPart i.depth (filled outer v) fs → IsContainer v
    by outer [] at part = absurd (omega (arith, some, part, h.here))
    by outer (f ∷ fs) at part = (f, (filled-same outer fs v (begun f) (omega (arith, at, part.0, h.here)) part.1).1)
