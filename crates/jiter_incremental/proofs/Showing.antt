-- An unfinished scalar is moved into the value so far, and out of it again, in an open container whatever that is in.
use Rattle.jiter_incremental.proofs.Words.{Refuses, IsScalar, false≢true, shown_as, take, ◌≤◌, ◌≡◌, ℕ, ◌+◌, ◌<◌, true}
use Rattle.jiter_incremental.proofs.Words.{false, List, [], ◌∷◌, length, refl, sym, subst, ap, ap₂, ◌∙◌, ◌++◌, add-one}
use Rattle.jiter_incremental.proofs.Words.{arith, string_bytes, None, Global, CowStr, Number, number_value, IsBegun}
use Rattle.jiter_incremental.proofs.Words.{number_from, PartialNumber, items_frame, members_frame, number_tree}
use Rattle.jiter_incremental.proofs.Words.{HasTaken, text_view, Text, Tree, string, PartialString, owned_text, tree_as}
use Rattle.jiter_incremental.proofs.Words.{IsLeft, OpenValue, at_value, text_of, Document, HasMoved, HasReadIn}
use Rattle.jiter_incremental.proofs.Words.{HoldsOpened, HoldsScalar, IsMoved, Next, Opened, Parted, TakenFrom}
use Rattle.jiter_incremental.proofs.Words.{between_tokens, in_key, in_scalar, is_shown, token_tree, with_parts, AsRead}
use Rattle.jiter_incremental.proofs.Words.{IsAt, IsComplete, IsHere, ahead, document, with_shown, AwaitsPart, HasValue}
use Rattle.jiter_incremental.proofs.Words.{IsContainer, IsOfKey, IsPut, OpenFrame, around, begun, filled, Reader, Token}
use Rattle.jiter_incremental.proofs.Words.{Advanced, HasEnded, IsPaused, JsonValue, KeepsRoom, inl, inr, null}
use Rattle.jiter_steps.specs.PartialText.{with_text}
use Rattle.jiter_incremental.specs.Document.{bytes_in}
use Rattle.jiter_incremental.specs.Slot.{HasPart, IsTaken}
use Rattle.jiter_incremental.specs.declared.reader.Awaits.TheVariants as awaits
use Rattle.jiter_incremental.specs.declared.reader.Token.TheVariants as token
use Rattle.jiter_incremental.proofs.Documents.{known-as}
use Rattle.jiter_incremental.proofs.Leading.{moved-key, moved-nothing, open-settled, OpenTree, open-held}
use Rattle.jiter_incremental.proofs.Placing.{depth-of, put-there}
use Rattle.jiter_incremental.proofs.Settling.{apart-read, reads-apart, calm-hidden, room_other}
use Rattle.jiter_incremental.proofs.Slots.{filled-same}

-- It is moved in,
pub shows-moved : (level : ℕ) (i : Reader) (v w x : Tree) (n : PartialNumber) (s : PartialString) (k : CowStr Global)
    → i.depth ≡ level → i.shown ≡ false → ((y : Tree) → is_shown (document i y) ≡ true)
    → ((y : Tree) → x ≡ token_tree (document i y) i.token) → ((y : Tree) → HasMoved i.token (document i y) n s x)
    → IsPut level v (text_view i.key) x w → AsRead level i v (with_shown i true n s k) w
shows-moved level i v w x n s k here hidden on seen moved put = record {
  goes = λ next t outer at h.
      let d = document i (filled outer v) in
      let e = document (with_shown i true n s k) (filled outer w) in
      let tree = token_tree d d.token in
      let is = seen (filled outer v) in
      let a = apart-read next d t h hidden in
      record {
        opened = a.opened;
        known = known-as next d e t a.opened (refl, refl, refl) a.known;
        held = λ unset. record {
          apart = d;
          held = a.held unset;
          sure = λ _. on (filled outer v);
          same = refl;
          moved = (
            subst (λ y. HasMoved d.token d n s y) is (moved (filled outer v)),
            record {
              value = λ fs part key. (
                depth-of i.depth (filled outer v) fs part,
                put-there level i.depth v w tree (text_view i.key) outer fs
                    (subst (λ y. IsPut level v (text_view i.key) y w) is put) at here part key,
              );
              awaits = refl;
            },
          );
        };
      };
}

-- a scalar that is unfinished
pub record InScalar (d : Document) (t : List ℕ) (o : Opened) : Type 0 where
  pub frames : List OpenFrame
  pub begin : ℕ
  pub is : o ≡ in_scalar frames begin
  pub held : HoldsOpened d t (in_scalar frames begin)

in-moved : (d : Document) (t : List ℕ) (o : Opened) (n : PartialNumber) (s : PartialString) (x : Tree) → HoldsOpened d t o
    → HasMoved d.token d n s x → InScalar d t o
in-moved d t (between_tokens a) n s x h moved = absurd (moved-nothing d.token d n s x moved h.0)
in-moved d t (in_scalar fs b) n s x h moved = record { frames = fs; begin = b; is = refl; held = h }
in-moved d t (in_key fs ms b) n s x h moved = absurd (moved-key d.token d n s x moved h.2)

-- and the text that was given back
abbrev TextBack : Token → Document → PartialNumber → PartialString → Type 0
TextBack token.Number d n s = (n.stage ≡ d.number.stage) × (string_bytes n.text ≡ string_bytes d.number.text)
TextBack token.Text d n s = s ≡ d.string
TextBack other d n s = Unit {0}

same-string : (a b : PartialString) → a.text ≡ b.text → a.escape ≡ b.escape → a ≡ b
same-string a b text escape = ap₂ (λ x y. record { text = x; escape = y }) text escape

text-back : (k : Token) (d : Document) (n back : PartialNumber) (s again : PartialString) (y : Tree)
    → HasMoved k d n s (token_tree d k) → y ≡ token_tree d k
    → ((x : Number) → k ≡ token.Number → y ≡ tree_as owned_text (number_tree x)
    → (back.stage ≡ n.stage) × (string_bytes back.text ≡ bytes_in y (string_bytes n.text)))
    → ((w : List ℕ) → k ≡ token.Text → y ≡ string (text_of w)
    → (again.text ≡ with_text s.text w) × (again.escape ≡ s.escape))
    → TextBack k d back again
text-back token.Number d n back s again y moved is number text =
    let given = number (number_value (string_bytes d.number.text)) refl is in
    (given.0 ∙ moved.0, given.1 ∙ ap (λ v. bytes_in v (string_bytes n.text)) is ∙ moved.1)
text-back token.Text d n back s again y moved is number text =
    let w = d.string.text.text in
    let given = text w refl is in
    same-string again d.string (given.0 ∙ ap (λ so. with_text so w) moved.0) (given.1 ∙ moved.1)
text-back token.Nothing d n back s again y moved is number text = tt
text-back token.Word d n back s again y moved is number text = tt
text-back token.Key d n back s again y moved is number text = tt

-- All is held again.
scalar-again : (d : Document) (n : PartialNumber) (s : PartialString) (v : OpenValue) (k : Token) (w : List ℕ)
    → TextBack k d n s → HoldsScalar d k w → HoldsScalar (with_parts d false n s v) k w
scalar-again d n s v token.Word w b h = h
scalar-again d n s v token.Number w b h = (
  record {
    text = b.1 ∙ h.0.text;
    begun = subst (IsBegun w) (sym b.0) h.0.begun;
    goes = λ names t i stands.
        h.0.goes names t i stands ∙ ap (λ g. number_from names g t (i + length w)) (sym b.0);
  },
  h.1,
)
scalar-again d n s v token.Text w b h =
    record { rest = h.rest; is = h.is; taken = subst (λ so. HasTaken so h.rest) (sym b) h.taken }
scalar-again d n s v token.Nothing w b h = absurd h
scalar-again d n s v token.Key w b h = absurd h

taken-again : (d : Document) (n : PartialNumber) (s : PartialString) (v : OpenValue) (t : List ℕ) (b : ℕ) (w : List ℕ)
    → TakenFrom d t b w → TakenFrom (with_parts d false n s v) t b w
taken-again d n s v t b w h = record { prefix = h.prefix; is = h.is; begin = h.begin; place = h.place }

holds-scalar : (d : Document) (n : PartialNumber) (s : PartialString) (v : OpenValue) (t : List ℕ) (fs : List OpenFrame)
    (b : ℕ) → HoldsOpened d t (in_scalar fs b) → TextBack d.token d n s → IsLeft v (at_value awaits.Value fs)
    → HoldsOpened (with_parts d false n s v) t (in_scalar fs b)
holds-scalar d n s v t fs b h back left =
    (h.0, taken-again d n s v t b h.0 h.1, scalar-again d n s v d.token h.0 back h.2, left, h.4)

-- The value of the scalar is in the slot,
key-on : (k : Text) (f : OpenFrame) (fs : List OpenFrame) → IsOfKey k (f ∷ []) → IsOfKey k (f ∷ fs)
key-on k (items_frame xs) fs of = tt
key-on k (members_frame ms l) fs of = of

pub stands-part : (level depth : ℕ) (v x : Tree) (outer fs : List OpenFrame) → 0 < level → depth ≡ level → IsAt level outer
    → HasValue depth (filled outer v) fs x → (f : OpenFrame) × (fs ≡ f ∷ outer) × (v ≡ around f x)
stands-part level depth v x outer [] some here at h = absurd (omega (arith, some, here, h.0))
stands-part level depth v x outer (f ∷ gs) some here at h =
    let same = filled-same outer gs v (around f x) (omega (arith, some, here, at, h.0)) h.1 in
    (f, ap (λ hs. f ∷ hs) (sym same.0), same.1)

pub stands-root : (level depth : ℕ) (v x : Tree) (outer fs : List OpenFrame) → level ≡ 0 → depth ≡ level
    → IsAt level outer → HasValue depth (filled outer v) fs x → v ≡ x
stands-root level depth v x outer [] none here at h = by outer (omega (arith, at, none)) h.1 where
  by : (gs : List OpenFrame) → length gs ≡ 0 → filled gs v ≡ x → v ≡ x
  by [] e is = is
  by (g ∷ gs) e is = absurd (omega (arith, e))
stands-root level depth v x outer (f ∷ gs) none here at h = absurd (omega (arith, none, here, h.0))

-- and is taken out of it, so that it is awaited again.
pub record FreeAgain (y x : Tree) (depth : ℕ) (w : Tree) (k : Text) (fs : List OpenFrame) : Type 0 where
  pub is : y ≡ x
  pub part : AwaitsPart depth w fs
  pub key : IsOfKey k fs

free-again : (level depth : ℕ) (v x y w : Tree) (k : Text) (outer fs : List OpenFrame) → depth ≡ level
    → IsAt level outer → HasValue depth (filled outer v) fs x → IsTaken level v y w k → FreeAgain y x depth (filled outer w) k fs
free-again level depth v x y w k outer [] here at h taken =
    let none : level ≡ 0 = omega (arith, here, h.0) in
    let is = taken.root none ∙ stands-root level depth v x outer [] none here at h in
    record { is = is; part = h.0; key = tt }
free-again level depth v x y w k outer (f ∷ gs) here at h taken =
    let some : 0 < level = omega (arith, here, h.0) in
    let same = filled-same outer gs v (around f x) (omega (arith, some, here, at, h.0)) h.1 in
    let free = taken.part f x some same.1 in
    record {
      is = free.0;
      part = (
        h.0 ∙ sym (add-one (length gs)),
        ap (λ hs. filled hs w) same.0 ∙ ap (filled gs) free.1,
      );
      key = key-on k f gs free.2;
    }

settled-in : (d : Document) (t : List ℕ) (o : Opened) (s : Parted d t o) → IsMoved true s.apart d
    → InScalar s.apart t o
settled-in d t o s m = in-moved s.apart t o d.number d.string (token_tree s.apart s.apart.token) s.held m.0

is-moved : (d : Document) (t : List ℕ) (o : Opened) (s : Parted d t o) → d.shown ≡ true → IsMoved true s.apart d
is-moved d t o s on = subst (λ b. IsMoved b s.apart d) on s.moved

-- A slot where a scalar is shown has a part.
pub shown-part : (level : ℕ) (i : Reader) (v : Tree) (n : Next) (t : List ℕ) (outer : List OpenFrame) → i.depth ≡ level
    → i.fault ≡ None → i.shown ≡ true → IsAt level outer → HasReadIn n (document i (filled outer v)) t → 0 < level
    → HasPart v
shown-part level i v n t outer here unset on at h some =
    let d = document i (filled outer v) in
    let s = h.held unset in
    let m = is-moved d t h.opened s on in
    let x = settled-in d t h.opened s m in
    let tree = token_tree s.apart s.apart.token in
    let p = stands-part level i.depth v tree outer x.frames some here at (m.1.value x.frames x.held.3.2 x.held.3.3) in
    record { frame = p.0; part = tree; is = p.2 }

-- It is moved out.
pub hides-moved : (level : ℕ) (i : Reader) (v w y : Tree) (n : PartialNumber) (s : PartialString) (k : CowStr Global)
    → i.depth ≡ level → i.fault ≡ None → i.shown ≡ true → IsTaken level v y w (text_view k)
    → ((x : Number) → i.token ≡ token.Number → y ≡ tree_as owned_text (number_tree x)
    → (n.stage ≡ i.number.stage) × (string_bytes n.text ≡ bytes_in y (string_bytes i.number.text)))
    → ((u : List ℕ) → i.token ≡ token.Text → y ≡ string (text_of u)
    → (s.text ≡ with_text i.string.text u) × (s.escape ≡ i.string.escape))
    → AsRead level i v (with_shown i false n s k) w
hides-moved level i v w y n s k here unset on taken number text = record {
  goes = λ next t outer at h.
      let d = document i (filled outer v) in
      let e = document (with_shown i false n s k) (filled outer w) in
      let z = h.held unset in
      let m = is-moved d t h.opened z on in
      let x = settled-in d t h.opened z m in
      let tree = token_tree z.apart z.apart.token in
      let kind : i.token ≡ z.apart.token = ap (λ (a : Document). a.token) z.same in
      let stands = m.1.value x.frames x.held.3.2 x.held.3.3 in
      let free = free-again level i.depth v tree y w (text_view k) outer x.frames here at stands taken in
      let back = text-back z.apart.token z.apart d.number n d.string s y m.0 free.is
      (λ x is. number x (kind ∙ is)) (λ u is. text u (kind ∙ is)) in
      let left : IsLeft e.value (at_value awaits.Value x.frames) =
      (m.1.awaits ∙ x.held.3.0, tt, free.part, free.key) in
      let held = holds-scalar z.apart n s e.value t x.frames x.begin x.held back left in
      let same : e ≡ with_parts z.apart false n s e.value = ap (λ a. with_parts a false n s e.value) z.same in
      reads-apart next e t (record {
        opened = h.opened;
        known = known-as next d e t h.opened (refl, refl, refl) h.known;
        held = λ none.
            subst (λ a. HoldsOpened a t h.opened) (sym same)
            (subst (λ o. HoldsOpened (with_parts z.apart false n s e.value) t o) (sym x.is) held);
      }) refl;
}

-- A number that is unfinished has begun.
pub begun-held : (d : Document) (t : List ℕ) (o : Opened) → HoldsOpened d t o → d.token ≡ token.Number
    → IsBegun (string_bytes d.number.text) d.number.stage
begun-held d t (between_tokens s) h is = absurd (let no : token.Number ≡ token.Nothing = sym is ∙ h.0 in cc)
begun-held d t (in_scalar fs b) h is =
    let n = (subst (λ k. HoldsScalar d k h.0) is h.2).0 in
    subst (λ w. IsBegun w d.number.stage) (sym n.text) n.begun
begun-held d t (in_key fs ms b) h is = absurd (let no : token.Number ≡ token.Key = sym is ∙ h.2 in cc)

-- What is shown is a number or a string,
pub shown-scalar : (d : Document) → is_shown d ≡ true → IsScalar d.token
shown-scalar d on = by d.token refl on where
  by : (k : Token) → d.token ≡ k → shown_as d k ≡ true → IsScalar d.token
  by token.Number is on = inl is
  by token.Text is on = inr is
  by token.Nothing is on = absurd (false≢true on)
  by token.Word is on = absurd (false≢true on)
  by token.Key is on = absurd (false≢true on)

-- and the innermost slot is a container, whether a scalar is shown in it or not.
container-of : (level depth : ℕ) (v : Tree) (outer : List OpenFrame) → depth ≡ level → IsAt level outer → 0 < level
    → OpenTree depth (filled outer v) → IsContainer v
container-of level depth v outer here at some o =
    let long : length outer ≡ length o.frames = omega (arith, o.deep, here, at, some) in
    (o.innermost, (filled-same outer o.frames v (begun o.innermost) long o.is).1)

pub container-read : (level : ℕ) (i : Reader) (v : Tree) (n : Next) (t : List ℕ) (outer : List OpenFrame) → i.depth ≡ level
    → i.fault ≡ None → IsAt level outer → HasReadIn n (document i (filled outer v)) t → 0 < level → IsContainer v
container-read level i v n t outer here unset at h some =
    container-of level i.depth v outer here at some
    (open-settled (document i (filled outer v)) t h.opened (h.held unset) (omega (arith, here, some)))

pub container-here : (level : ℕ) (chunk : List ℕ) (i : Reader) (v : Tree) → IsHere level chunk i v → 0 < level → IsContainer v
container-here level chunk i v h some =
    let r = h.read.3.read in
    container-of level i.depth v h.read.1 h.here h.read.2 some
    (open-held (document i (filled h.read.1 v)) h.read.0 r.opened (r.held h.unset) (omega (arith, h.here, some)))

-- Between two steps
pub paused-so : (level : ℕ) (j : Reader) (slot : JsonValue) → j.shown ≡ false → KeepsRoom level j slot → IsPaused level j slot
paused-so level j slot hidden room = record {
  apart = λ _. (hidden, room);
  complete = λ more unset off. calm-hidden (document j null) (λ is. absurd (omega (arith, more, (room is).0)));
}

pub paused-further : (level : ℕ) (j : Reader) (slot : JsonValue) → IsComplete j → (j.depth ≤ level → HasEnded j)
    → IsPaused level j slot
paused-further level j slot full ended = record {
  apart = λ low. let e = ended low in (e.0, room_other level j slot e.1);
  complete = λ _. full;
}

pub paused-ended : (level : ℕ) (j : Reader) (slot : JsonValue) → IsPaused level j slot → j.depth < level → HasEnded j
paused-ended level j slot p low =
    let a = p.apart (omega (arith, low)) in (a.0, λ is. absurd (omega (arith, low, (a.1 is).0)))

-- The same bytes are read by the reader that shows it, and by the one that does not.
pub went-as : (level : ℕ) (chunk : List ℕ) (h : Reader) (u : Tree) (i : Reader) (v : Tree) (j : Reader) (w : Tree)
    → Advanced level chunk h u i v → AsRead level i v j w → j ≡ with_shown i j.shown j.number j.string j.key
    → Advanced level chunk h u j w
went-as level chunk h u i v j w a read same =
    let k = with_shown i j.shown j.number j.string j.key in
    let so = subst (λ q. AsRead level i v q w) same read in
    subst (λ q. Advanced level chunk h u q w) (sym same) (record {
      after = a.after;
      within = a.within;
      same = a.same;
      depth = a.depth;
      low = a.low;
      reads = record {
        goes = λ t outer at r.
            let q = a.reads.goes t outer at r in
            record { read = so.goes (ahead i chunk i.at) (t ++ take i.at chunk) outer at q.read; position = q.position };
      };
    })

pub refuses-as : (level : ℕ) (chunk : List ℕ) (h : Reader) (u : Tree) (i j : Reader)
    → j ≡ with_shown i j.shown j.number j.string j.key → Refuses level chunk h u i → Refuses level chunk h u j
refuses-as level chunk h u i j same q =
    subst (Refuses level chunk h u) (sym same) (record { goes = q.goes; free = q.free })
