-- A value of a chunk is put where one is awaited, in an open container whatever that is in.
use Rattle.jiter_incremental.proofs.Words.{◌≡◌, ℕ, ◌+◌, ◌-◌, ◌<◌, ◌≤◌, false, List, [], ◌∷◌, ◌++◌, length, refl, sym}
use Rattle.jiter_incremental.proofs.Words.{subst, ap, ◌∙◌, add-one, arith, inl, slice_index, slice_range, Global}
use Rattle.jiter_incremental.proofs.Words.{CowStr, fault_kind, FaultKind, is_blank, items_frame, members_frame}
use Rattle.jiter_incremental.proofs.Words.{start_of, fault, opening, text_view, Text, Tree, ContainerKind, at_value}
use Rattle.jiter_incremental.proofs.Words.{between_parts, Everywhere, TakesByte, completed, BeginsHere, Follows}
use Rattle.jiter_incremental.proofs.Words.{IsAllowed, IsNumberWithin, IsScalarWithin, StandsAt, WordBegins, any_bytes}
use Rattle.jiter_incremental.proofs.Words.{between_tokens, with_byte, name_start, name_word, WordValue, PartialWord}
use Rattle.jiter_incremental.proofs.Words.{AwaitsValue, HasTakenTo, IsAt, IsHere, MovesBy, Steps, after_level, ahead}
use Rattle.jiter_incremental.proofs.Words.{document, refused, AwaitsPart, IsOfKey, IsPut, OpenFrame, begun, filled}
use Rattle.jiter_incremental.proofs.Words.{empty_tree, Reader, HasTakenIn}
use Rattle.jiter_scan.specs.declared.errors.FaultKind.TheVariants as fault_of
use Rattle.jiter_steps.specs.declared.parse.Start.TheVariants as start
use Rattle.jiter_incremental.specs.declared.reader.Awaits.TheVariants as awaits
use Rattle.jiter_incremental.specs.declared.reader.Token.TheVariants as token
use Rattle.jiter_incremental.proofs.Arms.{turned}
use Rattle.jiter_incremental.proofs.Between.{no-parts, put-left, scalar-read, value-begins, value-here, value-none}
use Rattle.jiter_incremental.proofs.Between.{value-too_deep}
use Rattle.jiter_incremental.proofs.Documents.{begins-in, follows-byte, puts, refuses, takes-byte, wrong-refused}
use Rattle.jiter_incremental.proofs.Documents.Bytes.{scalar-follows, scalar-reads}
use Rattle.jiter_incremental.proofs.Documents.Tokens.{number-within-ends, word-begins, word-held}
use Rattle.jiter_incremental.proofs.Settling.{ahead-level, moves-here, steps-one, steps-here, steps-run}
use Rattle.jiter_incremental.proofs.Slots.{filled-same}

-- How many containers are open
pub depth-of : (depth : ℕ) (v : Tree) (fs : List OpenFrame) → AwaitsPart depth v fs → depth ≡ length fs
depth-of depth v [] h = h
depth-of depth v (f ∷ fs) h = h.0 ∙ add-one (length fs)

key-first : (k : Text) (f : OpenFrame) (fs : List OpenFrame) → IsOfKey k (f ∷ fs) → IsOfKey k (f ∷ [])
key-first k (items_frame xs) fs of = tt
key-first k (members_frame ms l) fs of = of

-- What is put into the slot is put into the value.
pub put-there : (level depth : ℕ) (v w x : Tree) (k : Text) (outer fs : List OpenFrame) → IsPut level v k x w
    → IsAt level outer → depth ≡ level → AwaitsPart depth (filled outer v) fs → IsOfKey k fs
    → filled outer w ≡ filled fs x
put-there level depth v w x k outer [] p at here h of =
    let none : level ≡ 0 = omega (arith, here, h) in
    by outer (omega (arith, at, none))
  where
    by : (gs : List OpenFrame) → length gs ≡ 0 → filled gs w ≡ x
    by [] e = p.root (omega (arith, here, h))
    by (g ∷ gs) e = absurd (omega (arith, e))
put-there level depth v w x k outer (f ∷ fs) p at here h of =
    let some : 0 < level = omega (arith, here, h.0) in
    let same = filled-same outer fs v (begun f) (omega (arith, at, here, h.0)) h.1 in
    let key : IsOfKey k (f ∷ []) = key-first k f fs of in
    ap (λ gs. filled gs w) same.0 ∙ ap (filled fs) (p.part f some same.1 key)

module _ (level : ℕ) (chunk : List ℕ) (i : Reader) (v : Tree) (h : IsHere level chunk i v) (none : i.token ≡ token.Nothing)
    (awaited : AwaitsValue level chunk i v)
  where
    abbrev c : ℕ
    c = slice_index chunk i.at

    -- No value begins there.
    pub value-wrong : (kind : FaultKind) → ((fs : List OpenFrame) → length fs ≡ level
        → Everywhere c (λ p u j. completed p u (at_value awaits.Value fs) j ≡ fault (fault_kind kind) j j))
        → Steps level chunk i v (refused i kind (i.base + i.at)) v 1
    value-wrong kind wrong =
        let j = refused i kind (i.base + i.at) in
        steps-here level chunk i v j v h (refl, refl, refl, refl) refl
        (λ t outer at r.
        let x = filled outer v in
        let d = document i x in
        let a = awaited.goes t outer at r in
        let s = at_value awaits.Value a.0 in
        let stands : StandsAt c d t s =
        record { known = a.1.known; token = none; unset = h.unset; position = r.position } in
        let deep : length a.0 ≡ level = sym (depth-of i.depth x a.0 a.1.part) ∙ h.here in
        refuses (with_byte c) any_bytes d t (c ∷ []) (between_tokens s) kind d.position h.unset a.1.known
        (follows-byte c) (wrong-refused d d.value c t s kind stands (wrong a.0 deep)))

    module _ (other : is_blank c ≡ false) where
      -- It would be too deep,
      pub too-deep : 200 < level → Steps level chunk i v (refused i fault_of.RecursionLimitExceeded (i.base + i.at)) v 1
      too-deep deep =
          value-wrong fault_of.RecursionLimitExceeded
          (λ fs is p u j here. value-too_deep p u j c here other fs (omega (arith, is, deep)))

      -- or the byte begins none.
      pub no-value : level ≤ 200 → start_of c ≡ start.Nothing
          → Steps level chunk i v (refused i fault_of.ExpectedSomeValue (i.base + i.at)) v 1
      no-value low starts =
          value-wrong fault_of.ExpectedSomeValue
          (λ fs is p u j here. value-none p u j c here other fs (omega (arith, is, low)) starts)

      -- A container begins.
      pub container-opens : (kind : ContainerKind) (k : CowStr Global) (w : Tree) → level ≤ 200 → start_of c ≡ opening kind
          → IsPut level v (text_view i.key) (empty_tree kind) w
          → Steps level chunk i v (turned i awaits.First (i.depth + 1) k) w 1
      container-opens kind k w low starts put =
          let j = turned i awaits.First (i.depth + 1) k in
          let moves : MovesBy level chunk i j 1 =
          record {
            within = omega (arith, h.inside);
            some = inl (omega arith);
            still = (refl, refl, refl, refl);
            depth = (omega (arith, h.here), omega (arith, h.here));
            low = omega (arith, h.here, low);
            calm = λ other. h.unset;
          } in
          steps-one level chunk i v j w h.inside moves
          (λ t outer at r.
          let x = filled outer v in
          let d = document i x in
          let a = awaited.goes t outer at r in
          let fs = a.0 in
          let s = at_value awaits.Value fs in
          let deep = depth-of i.depth x fs a.1.part in
          let there = put-there level i.depth v w (empty_tree kind) (text_view i.key) outer fs put at h.here a.1.part a.1.key in
          let new = (document j (filled outer w)).value in
          let goes : TakesByte new s c =
          record {
            next = between_parts awaits.First kind [] fs;
            left = (refl, tt, ap (λ n. n + 1) deep, there ∙ ap (filled fs) (no-parts kind));
            ends = tt;
            goes = λ p u n here. value-begins p u n c here other kind fs (omega (arith, deep, h.here, low)) starts;
          } in
          takes-byte d new c t s a.1.known none goes)

      -- A scalar that is whole in the chunk is put there.
      pub scalar-put : (k : CowStr Global) (x w : Tree) (e : ℕ) → level ≤ 200 → IsPut level v (text_view i.key) x w
          → IsScalarWithin chunk i.at x e
          → Steps level chunk i v (record (turned i (after_level level) i.depth k) { token = token.Nothing }) w (e - i.at)
      scalar-put k x w e low put within =
          let j = record (turned i (after_level level) i.depth k) { token = token.Nothing } in
          let end : i.at + (e - i.at) ≡ e = omega (arith, within.begins) in
          steps-run level chunk i v j w h (e - i.at) (omega (arith, within.begins)) (omega (arith, end, within.within))
          (refl, refl, refl, refl) refl
          (λ t outer at r.
          let y = filled outer v in
          let d = document i y in
          let a = awaited.goes t outer at r in
          let fs = a.0 in
          let deep = depth-of i.depth y fs a.1.part in
          let held = record d.value { awaits = awaits.Value } in
          let begins : BeginsHere c (record d { value = held }) t fs =
          begins-in d held c t (at_value awaits.Value fs) fs a.1.known h.unset r.position
          (refl, tt, a.1.part, a.1.key) (omega (arith, deep, h.here, low))
          (λ p u n here. value-here p u n c here other fs) in
          let there = put-there level i.depth v w x (text_view i.key) outer fs put at h.here a.1.part a.1.key in
          let new = (document j (filled outer w)).value in
          let left = put-left new x fs (deep, there) (ap after_level (sym h.here)) in
          let bytes = slice_range chunk i.at e in
          let all = puts (with_byte c) any_bytes (record d { value = held }) new x t bytes fs (length t) begins.known
          (scalar-follows chunk i.at x e within) left (λ p u n m. scalar-read x p u n m fs)
          (scalar-reads chunk i.at x e within (record d { value = held }) t (length fs) begins.low) in
          subst (λ m. HasTakenIn any_bytes (document j (filled outer w)) (t ++ slice_range chunk i.at m)) (sym end) all)

      -- A number that is complete with the byte after it is put there: that byte is known to come next.
      pub number-put : (k : CowStr Global) (x w : Tree) (e : ℕ) → level ≤ 200 → IsPut level v (text_view i.key) x w
          → IsNumberWithin chunk i.at x e
          → Steps level chunk i v (record (turned i (after_level level) i.depth k) { token = token.Nothing }) w (e - i.at)
      number-put k x w e low put within =
          let j = record (turned i (after_level level) i.depth k) { token = token.Nothing } in
          let end : i.at + (e - i.at) ≡ e = omega (arith, within.ends.begins) in
          let last = slice_index chunk e in
          record {
            goes = λ t outer at r.
                let y = filled outer v in
                let d = document i y in
                let a = awaited.goes t outer at r in
                let fs = a.0 in
                let deep = depth-of i.depth y fs a.1.part in
                let held = record d.value { awaits = awaits.Value } in
                let d' = record d { value = held } in
                let begins : BeginsHere c d' t fs =
                begins-in d held c t (at_value awaits.Value fs) fs a.1.known h.unset r.position
                (refl, tt, a.1.part, a.1.key) (omega (arith, deep, h.here, low))
                (λ p u n here. value-here p u n c here other fs) in
                let there = put-there level i.depth v w x (text_view i.key) outer fs put at h.here a.1.part a.1.key in
                let new = (document j (filled outer w)).value in
                let left = put-left new x fs (deep, there) (ap after_level (sym h.here)) in
                let got = document j (filled outer w) in
                let bytes = slice_range chunk i.at e in
                let b = number-within-ends d' t fs chunk i.at x e begins within in
                let follows : Follows (with_byte b.first) bytes (with_byte last) =
                λ u comes. (b.rest ++ u, ap (λ s. s ++ u) b.is) in
                let all = puts (with_byte b.first) (with_byte last) d' new x t bytes fs (length t) b.begins.known follows left
                (λ p u n m. scalar-read x p u n m fs) b.reads in
                let next : ahead j chunk e ≡ with_byte last =
                ahead-level token.Nothing (after_level level) level chunk e refl refl within.ends.within in
                subst (λ m. HasTakenIn (ahead j chunk m) got (t ++ slice_range chunk i.at m)) (sym end)
                (subst (λ m. HasTakenIn m got (t ++ bytes)) (sym next) all);
            moves =
                moves-here level chunk i h.here h.low j (e - i.at) (omega (arith, within.ends.begins))
                (omega (arith, end, within.ends.within)) (refl, refl, refl, refl) refl;
          }

      -- A scalar begins there.
      pub begins-there : level ≤ 200 → (t : List ℕ) (outer : List OpenFrame) → IsAt level outer
          → HasTakenTo chunk i (filled outer v) t
          → (fs : List OpenFrame) × BeginsHere c (record (document i (filled outer v)) {
            value = record (document i (filled outer v)).value { awaits = awaits.Value };
          }) t fs
      begins-there low t outer at r =
          let y = filled outer v in
          let d = document i y in
          let a = awaited.goes t outer at r in
          let fs = a.0 in
          let deep = depth-of i.depth y fs a.1.part in
          let held = record d.value { awaits = awaits.Value } in (
            fs,
            begins-in d held c t (at_value awaits.Value fs) fs a.1.known h.unset r.position (refl, tt, a.1.part, a.1.key)
                (omega (arith, deep, h.here, low)) (λ p u n here. value-here p u n c here other fs),
          )

      -- A word does.
      pub word-step : (k : WordValue) (o : PartialWord) → level ≤ 200 → start_of c ≡ name_start k → IsAllowed i.settings k
          → WordBegins k c → o.word.now ≡ name_word k → o.seen ≡ 1
          → Steps level chunk i v (record i {
            begin = i.base + i.at;
            token = token.Word;
            awaits = awaits.Value;
            name = k;
            word = o;
          }) v 1
      word-step k o low starts allowed begins word seen =
          let j = record i { begin = i.base + i.at; token = token.Word; awaits = awaits.Value; name = k; word = o } in
          steps-here level chunk i v j v h (refl, refl, refl, refl) refl
          (λ t outer at r.
          let b = begins-there low t outer at r in
          let d = document i (filled outer v) in
          let held = record d { value = record d.value { awaits = awaits.Value } } in
          word-begins held (document j (filled outer v)) k t c b.0 b.1 (refl, refl, refl) refl refl refl
          refl (word-held k o c begins word seen) allowed starts)
