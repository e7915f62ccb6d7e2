-- Words and strings that a chunk cut go on and end, in an open container whatever that is in.
use Rattle.jiter_incremental.proofs.Settling.{come-all, moves-from, one-slice, steps-here, steps-run}
use Rattle.jiter_incremental.proofs.Words.{ReadsAsBefore, ◌≡◌, ℕ, ◌+◌, ◌-◌, ◌<◌, ◌≤◌, Bool, true, false, List, [], ◌∷◌}
use Rattle.jiter_incremental.proofs.Words.{◌++◌, length, refl, sym, subst, ap, ◌∙◌, arith, inl, inr, length-append}
use Rattle.jiter_incremental.proofs.Words.{slice_get, slice_index, slice_range, Option, None, Some, Global, CowStr}
use Rattle.jiter_incremental.proofs.Words.{slice-one, allows_trailing_strings, Fault, FaultKind, PartialWord, word_by}
use Rattle.jiter_incremental.proofs.Words.{word_from, GoesOnWith, HasTaken, text_view, Tree, string, PartialString}
use Rattle.jiter_incremental.proofs.Words.{text_of, Follows, HasTakenAll, HasTakenIn, HoldsOpened, ReadSoFar, Next}
use Rattle.jiter_incremental.proofs.Words.{Opened, any_bytes, HoldsScalar, between_tokens, in_key, in_scalar, noted_in}
use Rattle.jiter_incremental.proofs.Words.{with_byte, name_tree, HasTakenTo, IsAt, IsHere, Steps, after_level, ahead}
use Rattle.jiter_incremental.proofs.Words.{ahead_as, document, noted, refused, IsPut, OpenFrame, filled, IsClosedAs}
use Rattle.jiter_incremental.proofs.Words.{IsOfString, IsPutSo, IsSettled, IsTextAs, Reader, Token, after_key, after_text}
use Rattle.jiter_incremental.proofs.Documents.Strings.{wrong-refused, closed-refused, index-low, is-held, key-taken}
use Rattle.jiter_incremental.proofs.Documents.Strings.{noted-held, noted-known, noted-text, taken-on, taken-same}
use Rattle.jiter_incremental.proofs.Documents.Strings.{whole-text, with_string, wrong-low}
use Rattle.jiter_scan.specs.Ascii as ascii
use Rattle.jiter_scan.specs.declared.errors.FaultKind.TheVariants as fault_of
use Rattle.jiter_scan.specs.declared.partial_word.WordStep.TheVariants as seen
use Rattle.jiter_steps.specs.PartialString.{IsCountAt}
use Rattle.jiter_steps.specs.declared.partial_string.StringStep.TheVariants as went
use Rattle.jiter_incremental.specs.declared.reader.Token.TheVariants as token
use Rattle.jiter_incremental.proofs.Arms.{turned}
use Rattle.jiter_incremental.proofs.Between.{key-read, put-left, scalar-read}
use Rattle.jiter_incremental.proofs.Documents.{known-as, puts, refuses}
use Rattle.jiter_incremental.proofs.Documents.Tokens.{Unfinished, word-ends, word-goes-on, word-open, word-refused}
use Rattle.jiter_incremental.proofs.Placing.{depth-of, put-there}

-- ---- words

module _ (level : ℕ) (chunk : List ℕ) (i : Reader) (v : Tree) (h : IsHere level chunk i v) (word : i.token ≡ token.Word)
  where
    abbrev c : ℕ
    c = slice_index chunk i.at

    ahead-word : ahead i chunk i.at ≡ any_bytes
    ahead-word = ap (λ k. ahead_as k i.awaits chunk i.at) word

    come : (t : List ℕ) (x : Tree) → HasTakenTo chunk i x t → HasTakenAll (document i x) t
    come t x r = come-all chunk i x t ahead-word r

    open-word : (t : List ℕ) (x : Tree) → HasTakenTo chunk i x t → Unfinished (document i x) t token.Word
    open-word t x r = word-open (document i x) t (come t x r) h.unset word

    -- A word goes on,
    pub word-part : (m : PartialWord) → m.word ≡ i.word.word
        → ((t : List ℕ) (j : ℕ) → slice_get t j ≡ Some c
        → word_from i.word.word.now i.word.seen t j ≡ word_by i.word.word.now m.seen t j seen.Part)
        → Steps level chunk i v (record i { word = m }) v 1
    word-part m same leads =
        let j = record i { word = m } in
        steps-here level chunk i v j v h (refl, refl, refl, refl) refl
        (λ t outer at r.
        let x = filled outer v in
        word-goes-on (document i x) t (open-word t x r) m c word (ap (λ w. w.now) same) leads)

    -- ends,
    pub word-last : (m : PartialWord) (k : CowStr Global) (w : Tree)
        → ((t : List ℕ) (j : ℕ) → slice_get t j ≡ Some c
        → word_from i.word.word.now i.word.seen t j ≡ word_by i.word.word.now m.seen t j seen.Last)
        → IsPut level v (text_view i.key) (name_tree i.name) w
        → Steps level chunk i v (record (turned i (after_level level) i.depth k) { token = token.Nothing }) w 1
    word-last m k w leads put =
        let j = record (turned i (after_level level) i.depth k) { token = token.Nothing } in
        steps-here level chunk i v j w h (refl, refl, refl, refl) refl
        (λ t outer at r.
        let y = filled outer v in
        let d = document i y in
        let o = open-word t y r in
        let x = name_tree i.name in
        let new = (document j (filled outer w)).value in
        let deep = depth-of i.depth y o.frames o.left.2 in
        let there = put-there level i.depth v w x (text_view i.key) outer o.frames put at h.here o.left.2 o.left.3 in
        let left = put-left new x o.frames (deep, there) (ap after_level (sym h.here)) in
        puts any_bytes any_bytes d new x t (c ∷ []) o.frames o.begin o.known (λ u comes. tt) left
        (λ p u n m. scalar-read x p u n m o.frames) (word-ends d t o m c leads))

    -- or is none.
    pub word-wrong : (m : PartialWord)
        → ((t : List ℕ) (j : ℕ) → slice_get t j ≡ Some c
        → word_from i.word.word.now i.word.seen t j ≡ word_by i.word.word.now m.seen t j seen.Other)
        → Steps level chunk i v (refused i fault_of.ExpectedSomeIdent (i.base + i.at)) v 1
    word-wrong m leads =
        let kind = fault_of.ExpectedSomeIdent in
        let j = refused i kind (i.base + i.at) in
        steps-here level chunk i v j v h (refl, refl, refl, refl) refl
        (λ t outer at r.
        let x = filled outer v in
        let d = document i x in
        let o = open-word t x r in
        refuses any_bytes any_bytes d t (c ∷ []) (in_scalar o.frames o.begin) kind d.position h.unset o.known
        (λ u comes. tt) (word-refused d t o m c r.position leads))

-- ---- strings that end

pub put-settled : (level : ℕ) (i : Reader) (v : Tree) (j : Reader) (w : Tree) → IsOfString i.token → i.fault ≡ None
    → i.depth ≡ level → IsPutSo level i v j w → IsSettled level j
put-settled level i v j w (inl is) unset deep p =
    let q = (p.text is).1 in
    (ap (λ (r : Reader). r.fault) q ∙ unset, ap (λ (r : Reader). r.depth) q ∙ deep)
put-settled level i v j w (inr is) unset deep p =
    let q = (p.key is).2 in
    (ap (λ (r : Reader). r.fault) q ∙ unset, ap (λ (r : Reader). r.depth) q ∙ deep)

-- Its text is known: it is put where a value is awaited,
text-goes : (level : ℕ) (i : Reader) (v w : Tree) (k : CowStr Global) (s : PartialString) (n : Next) (t : List ℕ)
    (outer : List OpenFrame) (o : Opened) → i.depth ≡ level → IsAt level outer → i.token ≡ token.Text
    → IsPut level v (text_view i.key) (string (text_of i.string.text.text)) w
    → ReadSoFar n (document i (filled outer v)) t o → HoldsOpened (document i (filled outer v)) t o
    → Follows n (34 ∷ []) any_bytes
    → IsTextAs (document i (filled outer v)) any_bytes (t ++ 34 ∷ []) o i.string.text.text
    → HasTakenIn any_bytes (document (after_text i level k s) (filled outer w)) (t ++ 34 ∷ [])
text-goes level i v w k s n t outer (between_tokens a) here at is put known held follows text = absurd text
text-goes level i v w k s n t outer (in_scalar fs b) here at is put known held follows text =
    let y = filled outer v in
    let d = document i y in
    let x = string (text_of i.string.text.text) in
    let new = (document (after_text i level k s) (filled outer w)).value in
    let deep = depth-of i.depth y fs held.3.2 in
    let there = put-there level i.depth v w x (text_view i.key) outer fs put at here held.3.2 held.3.3 in
    let left = put-left new x fs (deep, there) (ap after_level (sym here)) in
    puts n any_bytes (with_string d s) new x t (34 ∷ []) fs b (known-as n d (with_string d s) t (in_scalar fs b) (refl, refl, refl) known) follows left
    (λ p u n m. scalar-read x p u n m fs) text
text-goes level i v w k s n t outer (in_key fs ms b) here at is put known held follows text =
    absurd (let no : token.Text ≡ token.Key = sym is ∙ held.2 in cc)

-- or it is the key of the next value.
key-goes : (i : Reader) (y : Tree) (k : CowStr Global) (s : PartialString) (n : Next) (t : List ℕ) (o : Opened)
    → i.token ≡ token.Key → i.fault ≡ None → text_view k ≡ text_of i.string.text.text
    → ReadSoFar n (document i y) t o → HoldsOpened (document i y) t o → Follows n (34 ∷ []) any_bytes
    → IsTextAs (document i y) any_bytes (t ++ 34 ∷ []) o i.string.text.text
    → HasTakenIn any_bytes (document (after_key i k s) y) (t ++ 34 ∷ [])
key-goes i y k s n t (between_tokens a) is unset named known held follows text = absurd text
key-goes i y k s n t (in_scalar fs b) is unset named known held follows text =
    absurd (subst (λ q. HoldsScalar (document i y) q held.0) is held.2)
key-goes i y k s n t (in_key fs ms b) is unset named known held follows text =
    let d = document i y in
    let u = text_of i.string.text.text in
    let new = (document (after_key i k s) y).value in
    let low : b < length (t ++ 34 ∷ []) =
    omega (arith, ap length held.1.is, length-append held.1.prefix held.0, held.1.begin, length-append t (34 ∷ [])) in
    key-taken (with_string d s) new n any_bytes t (34 ∷ []) fs ms b u (known-as n d (with_string d s) t (in_key fs ms b) (refl, refl, refl) known) follows
    unset (held.4, tt, (held.5, held.6), sym named) low text (λ p t j e ms fs. key-read p t j e ms fs u)

pub only-text : (k : Token) → IsOfString k → ¬ (k ≡ token.Key) → k ≡ token.Text
only-text k (inl is) other = is
only-text k (inr is) other = absurd (other is)

pub ahead-string : (k : Token) (r : Reader) (chunk : List ℕ) (i : ℕ) → r.token ≡ k → IsOfString k
    → ahead r chunk i ≡ any_bytes
ahead-string k r chunk i is (inl e) = ap (λ x. ahead_as x r.awaits chunk i) (is ∙ e)
ahead-string k r chunk i is (inr e) = ap (λ x. ahead_as x r.awaits chunk i) (is ∙ e)

pub none-of : (k : Token) → IsOfString k → ¬ (k ≡ token.Nothing)
none-of k (inl is) none = absurd (let no : token.Nothing ≡ token.Text = sym none ∙ is in cc)
none-of k (inr is) none = absurd (let no : token.Nothing ≡ token.Key = sym none ∙ is in cc)

-- What was taken of a string
pub string-come : (chunk : List ℕ) (i : Reader) → IsOfString i.token → (t : List ℕ) (x : Tree)
    → HasTakenTo chunk i x t → HasTakenAll (document i x) t
string-come chunk i k t x r = come-all chunk i x t (ahead-string i.token i chunk i.at refl k) r

module _ (level : ℕ) (chunk : List ℕ) (i : Reader) (v : Tree) (h : IsHere level chunk i v) (k : IsOfString i.token)
    (quote : slice_get chunk i.at ≡ Some ascii.quote) (whole : i.string.escape ≡ None)
  where
    abbrev apart-come : (t : List ℕ) (x : Tree) → HasTakenTo chunk i x t → HasTakenAll (document i x) t
    apart-come t x r = string-come chunk i k t x r

    -- The quote is taken.
    from-quote : (j : Reader) (w : Tree) → j.settings ≡ i.settings → j.base ≡ i.base → j.at ≡ i.at → j.depth ≡ i.depth
        → j.shown ≡ i.shown
        → ((t : List ℕ) (outer : List OpenFrame) → IsAt level outer → HasTakenTo chunk i (filled outer v) t
        → HasTakenIn any_bytes (document j (filled outer w)) (t ++ 34 ∷ []))
        → Steps level chunk i v j w 1
    from-quote j w settings base at depth shown goes =
        steps-run level chunk i v j w h 1 (omega arith) (omega (arith, h.inside)) (settings, base, at, shown) depth
        (λ t outer o r.
        subst (λ s. HasTakenIn any_bytes (document j (filled outer w)) (t ++ s)) (sym (slice-one chunk i.at 34 quote))
        (goes t outer o r))

    -- The text is put by a reader that noted an error or none.
    module _ (f : Option Fault) (n : Next) (follows : Follows n (34 ∷ []) any_bytes)
        (known : (t : List ℕ) (x : Tree) (r : HasTakenTo chunk i x t)
        → ReadSoFar n (document (record i { first = f }) x) t (apart-come t x r).read.opened)
        (held : (t : List ℕ) (x : Tree) (r : HasTakenTo chunk i x t)
        → HoldsOpened (document (record i { first = f }) x) t (apart-come t x r).read.opened)
        (text : (t : List ℕ) (x : Tree) (r : HasTakenTo chunk i x t)
        → IsTextAs (document (record i { first = f }) x) any_bytes (t ++ 34 ∷ []) (apart-come t x r).read.opened i.string.text.text)
      where
        abbrev i' : Reader
        i' = record i { first = f }

        quote-put : (j : Reader) (w : Tree) → IsOfString i.token → IsPutSo level i' v j w
            → Steps level chunk i v j w 1
        quote-put j w (inl is) p =
            let q = p.text is in
            subst (λ j. Steps level chunk i v j w 1) (sym q.1)
            (from-quote (after_text i' level j.key j.string) w refl refl refl refl refl
            (λ t outer at r.
            let x = filled outer v in
            text-goes level i' v w j.key j.string n t outer (apart-come t x r).read.opened h.here at is q.0 (known t x r) (held t x r)
            follows (text t x r)))
        quote-put j w (inr is) p =
            let q = p.key is in
            subst (λ j. Steps level chunk i v j w 1) (sym q.2)
            (from-quote (after_key i' j.key j.string) w refl refl refl refl refl
            (λ t outer at r.
            let x = filled outer v in
            subst (λ y. HasTakenIn any_bytes (document (after_key i' j.key j.string) (filled outer y)) (t ++ 34 ∷ []))
            (sym q.0)
            (key-goes i' x j.key j.string n t (apart-come t x r).read.opened is h.unset q.1 (known t x r) (held t x r) follows
            (text t x r))))

    -- A whole text is put,
    pub quote-whole-put : IsClosedAs i.string false true → (j : Reader) (w : Tree) → IsPutSo level i v j w
        → Steps level chunk i v j w 1
    quote-whole-put is j w p =
        quote-put i.first any_bytes (λ u c. tt) (λ t x r. (apart-come t x r).read.known) (λ t x r. (apart-come t x r).read.held h.unset)
        (λ t x r. whole-text (document i x) k h.unset t (apart-come t x r) whole is) j w k p

    module _ (kept : Bool) (text_kept : i.token ≡ token.Text → kept ≡ allows_trailing_strings i.settings.mode)
        (key_kept : i.token ≡ token.Key → kept ≡ false) (broken : IsClosedAs i.string false false) (index : ℕ)
        (place : index ≡ i.begin + 1 + length i.string.text.text)
      where
        -- and what is kept of one that is none as a whole,
        pub quote-kept-put : IsClosedAs i.string kept true → (j : Reader) (w : Tree)
            → IsPutSo level (noted i fault_of.InvalidUnicodeCodePoint index) v j w → Steps level chunk i v j w 1
        quote-kept-put is j w p =
            quote-put (noted_in i.first fault_of.InvalidUnicodeCodePoint index) (with_byte 34) (λ u c. (u, refl))
            (λ t x r.
            noted-known (document i x) k h.unset t (apart-come t x r) whole kept text_kept key_kept broken index place
            is)
            (λ t x r.
            noted-held (document i x) k h.unset t (apart-come t x r) whole kept text_kept key_kept broken index place
            is)
            (λ t x r.
            noted-text (document i x) k h.unset t (apart-come t x r) whole kept text_kept key_kept broken index place
            is) j w k p

        -- or it is refused.
        pub quote-refused : IsClosedAs i.string kept false
            → Steps level chunk i v (refused i fault_of.InvalidUnicodeCodePoint index) v 1
        quote-refused is =
            let kind = fault_of.InvalidUnicodeCodePoint in
            from-quote (refused i kind index) v refl refl refl refl refl
            (λ t outer at r.
            let x = filled outer v in
            let d = document i x in
            refuses any_bytes any_bytes d t (34 ∷ []) (apart-come t x r).read.opened kind index h.unset (apart-come t x r).read.known (λ u c. tt)
            (closed-refused d k h.unset t (apart-come t x r) whole kept text_kept key_kept broken index place is))

    -- The place after its characters is in the text so far.
    pub quote-low : i.begin + 1 + length i.string.text.text ≤ i.base + i.at
    quote-low =
        let t = h.read.0 in
        let x = filled h.read.1 v in
        index-low (document i x) k h.unset t (apart-come t x h.read.3) whole

-- ---- strings that go on

module _ (level : ℕ) (chunk : List ℕ) (i : Reader) (v : Tree) (h : IsHere level chunk i v) (k : IsOfString i.token)
    (s : PartialString)
  where
    abbrev j : Reader
    j = record i { string = s }

    come-so : (t : List ℕ) (x : Tree) → HasTakenTo chunk i x t → HasTakenAll (document i x) t
    come-so t x r = string-come chunk i k t x r

    -- Its quote comes next.
    module _ (goes : (u : List ℕ) → HasTaken i.string u → GoesOnWith s u chunk i.at went.Quote) where
      quote-taken : (t : List ℕ) (x : Tree) → HasTakenTo chunk i x t → HasTakenTo chunk j x t
      quote-taken t x r = record {
        read =
            subst (λ n. HasTakenIn n (document j x) t) (sym (ahead-string i.token j chunk i.at refl k))
            (taken-same (document i x) s t k h.unset (λ u y. (goes u y).0) (come-so t x r).read);
        position = r.position;
      }

      pub quote-here : IsHere level chunk j v
      quote-here = record {
        here = h.here;
        low = h.low;
        inside = h.inside;
        room = h.room;
        unset = h.unset;
        read = (h.read.0, h.read.1, h.read.2, quote-taken h.read.0 (filled h.read.1 v) h.read.3);
      }

      pub quote-is : (s.escape ≡ None) × (slice_get chunk i.at ≡ Some ascii.quote)
      quote-is =
          let x = filled h.read.1 v in
          let c = come-so h.read.0 x h.read.3 in
          let o = is-held (document i x) h.read.0 k c.read.opened (c.read.held h.unset) in
          let g = goes o.rest o.taken_so in
          (g.1, g.2)

      pub quote-steps : (x : Reader) (y : Tree) (n : ℕ) → Steps level chunk j v x y n → Steps level chunk i v x y n
      quote-steps x y n q = record {
        goes = λ t outer at r. q.goes t outer at (quote-taken t (filled outer v) r);
        moves = moves-from level chunk i j x n (refl, refl, refl, refl) q.moves;
      }

    -- Bytes are taken into it,
    pub taken-steps : (n : ℕ) → ((u : List ℕ) → HasTaken i.string u → GoesOnWith s u chunk i.at (went.Taken n))
        → IsCountAt chunk i.at n → Steps level chunk i v j v n
    taken-steps n goes part =
        steps-run level chunk i v j v h n part.0 part.1 (refl, refl, refl, refl) refl
        (λ t outer at r.
        taken-on (document i (filled outer v)) s t (slice_range chunk i.at (i.at + n)) k h.unset goes
        (come-so t (filled outer v) r).read)

    -- or an allocation failed, and none is.
    pub string-stays : s ≡ i.string → ReadsAsBefore level chunk i v j v
    string-stays same =
        subst (λ x. ReadsAsBefore level chunk i v (record i { string = x }) v) (sym same) (record {
          goes = λ t outer at r. (come-so t (filled outer v) r).read;
          free = ahead-string i.token i chunk i.at refl k;
          still = (refl, refl, refl, refl);
          depth = refl;
        })

    -- A byte is wrong.
    module _ (kind : FaultKind) (back : ℕ)
        (goes : (u : List ℕ) → HasTaken i.string u → GoesOnWith s u chunk i.at (went.Wrong kind back)) where
      pub wrong-before : back ≤ i.base + i.at
      wrong-before =
          let t = h.read.0 in
          let x = filled h.read.1 v in
          wrong-low (document i x) k h.unset t (come-so t x h.read.3) s chunk i.at back kind h.inside goes

      pub wrong-steps : Steps level chunk i v (refused j kind (i.base + i.at - back)) v 1
      wrong-steps =
          let index = i.base + i.at - back in
          let x = refused j kind index in
          steps-here level chunk i v x v h (refl, refl, refl, refl) refl
          (λ t outer at r.
          let d = document i (filled outer v) in
          let c = come-so t (filled outer v) r in
          let fails = wrong-refused d k h.unset t c s chunk i.at back kind h.inside goes in
          let run = slice_range chunk i.at (i.at + 1) in
          subst (λ b. HasTakenIn any_bytes (document x (filled outer v)) (t ++ b)) (one-slice chunk i.at h.inside)
          (refuses any_bytes any_bytes (with_string d s) t run c.read.opened kind index h.unset
          (known-as any_bytes d (with_string d s) t c.read.opened (refl, refl, refl) c.read.known) (λ u q. tt) fails))
