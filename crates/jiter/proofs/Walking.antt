-- A walk through the items or members of a document's container by the pull reader: what its calls reply, in the
-- grammar's words.
use Rattle.jiter.proofs.Words.{◌≡◌, ◌∙◌, ℕ, ◌+◌, ◌-◌, ◌<◌, ◌≤◌, ◌==◌, Bool, List, [], ◌∷◌, length, refl, sym, ap, subst}
use Rattle.jiter.proofs.Words.{arith, slice_get, slice_index, Option, Some, None, none-some, slice_get_within, Scanned}
use Rattle.jiter.proofs.Words.{taken, failed, Span, ScalarWithin, skip_at, IsBlank, past_blanks, start_of, Key, Node}
use Rattle.jiter.proofs.Words.{begin, end, Spells, SpellsKey, nesting, nesting_limit, Reading, done, fault, Step, more}
use Rattle.jiter.proofs.Words.{closed, stuck, step, colon, Form, whole, raw, string_at, between, Text}
use Rattle.jiter.proofs.Words.{past_blanks-after, EndsNumber, begins-value, start_is, members_list, string_at-within}
use Rattle.jiter.proofs.Words.{Ahead, Within, skip_at-within, Cause, MovesOn, ReaderState, Reply, gave, refused}
use Rattle.jiter.proofs.Words.{with_position, value_place, if_byte, next, value_reply, skip_read, array_read, item_step}
use Rattle.jiter.proofs.Words.{object_read, key_step, part_reply, member_reply, key_reply, colon_reply, finish}
use Rattle.jiter.proofs.Words.{key_bytes, option_map, reply_seen}
use Rattle.std.proofs.lemmas.Option.{slice_get_past}
use Rattle.jiter_steps.specs.Node.{Nodes, NodeMembers, array, object}
use Rattle.jiter_steps.specs.Node.{IsDocument, text_at}
use Rattle.jiter_steps.specs.Step.{begins_part, closer_of, container_comma, container_first}
use Rattle.jiter_steps.specs.Step.{container_step}
use Rattle.jiter_steps.specs.declared.parse.ContainerKind.{ContainerKind}
use Rattle.jiter_steps.specs.declared.parse.ContainerKind.TheVariants as shape
use Rattle.jiter_steps.proofs.Grammar.Blanks.{blank-to_end}
use Rattle.jiter_steps.proofs.Grammar.RowSteps.{PartAt, delimits}
use Rattle.jiter_steps.proofs.Grammar.SpelledParts.{IsItem, IsMember, ends-end, items-parts}
use Rattle.jiter_steps.proofs.Grammar.SpelledParts.{members-parts, nodes_list}
use Rattle.jiter_steps.proofs.Grammar.StringLaws.{string_at-complete, raw-whole}
use Rattle.jiter_steps.proofs.Reading.Bounds.{SpanAhead, container_step-ahead, colon-ahead, either}
use Rattle.jiter_steps.proofs.Reading.Parts.{MoreParts, PartThen, Parts}
use Rattle.jiter.specs.Parts.{StandsNext}
use Rattle.jiter.specs.Reader.{end_reply}
use Rattle.jiter.proofs.Members.{colon-taken, place-after, place-there, skip-spelled}

pub gave-refused : {A : Type 0} {a : A} {i : ℕ} {c : Cause} {x stop : ℕ} → gave a i ≡ refused c x stop → ⊥
gave-refused h = absurd (cc)

pub gave-is : {A : Type 0} (a b : A) (i j : ℕ) → gave a i ≡ gave b j → (a ≡ b) × (i ≡ j)
gave-is a b i j h = (cc, cc)

some-is : {A : Type 0} (x y : A) → Some x ≡ Some y → x ≡ y
some-is x y h = cc

-- one move and then another
pub moves-on : (s0 s1 s2 : ReaderState) → MovesOn s0 s1 → MovesOn s1 s2 → MovesOn s0 s2
moves-on s0 s1 s2 a b =
    let text : s1.text ≡ s0.text = ap (λ (x : ReaderState). x.text) a.same in
    record {
      same = b.same ∙ ap (λ (x : ReaderState). with_position x s2.position) a.same;
      forward = omega (arith, a.forward, b.forward);
      within = omega (arith, b.within, ap length text);
    }

-- this node comes next, and after it no number goes on
pub record ComesNext (s : ReaderState) (n : Node) : Type 0 where
  pub stands : StandsNext s n
  pub quiet : EndsNumber s.text (end n)

-- A document's node comes next to a reader before its first byte.
pub document-next : (s : ReaderState) (n : Node) → IsDocument s.names s.text n → s.position ≡ 0 → ComesNext s n
document-next s n d start = record {
  stands = record {
    place = ap (past_blanks s.text) start ∙ place-after s.names s.text n d.spelled 0 d.before;
    spelled = d.spelled;
    limit = d.limit;
  };
  quiet = ends-end s.text (end n) d.after;
}

-- A next_ call reads what begins so there.
pub next-reads : (s : ReaderState) (n : Node) → StandsNext s n → {A : Type 0} (read : ℕ → _ → Reply A)
    → next s read ≡ read (begin n) (start_is n)
next-reads s n h read =
    let first = begins-value s.names s.text n h.spelled in
    ap (λ i. if_byte i (slice_get s.text i) (λ c. read i (start_of c))) h.place
    ∙ ap (λ o. if_byte (begin n) o (λ c. read (begin n) (start_of c))) first.here
    ∙ ap (read (begin n)) first.starts

module _ (s : ReaderState) (n : Node) (h : ComesNext s n) where
  -- A skip passes exactly the node.
  pub skip-passes : next s (skip_read s) ≡ gave tt (end n)
  skip-passes =
      next-reads s n h.stands (skip_read s)
      ∙ ap value_reply (skip-spelled s.names s.text n h.stands.spelled h.stands.limit h.quiet)

-- a part from i to e: what is told of it, and its value, which comes next then
pub record MeetsPart {K : Type 0} (s : ReaderState) (told : ℕ → Reply (Option K)) (k : K) (n : Node) (i e : ℕ)
    : Type 0 where
  pub after : ℕ
  pub is : told i ≡ gave (Some k) after
  pub comes : ComesNext (with_position s after) n
  pub ends : end n ≡ e

-- Items and members alike.
module _ {P : Type 0} (b : ContainerKind) (IsPart : Bool → List ℕ → ℕ → P → ℕ → Type 0) where
  -- after a part these are left, up to e
  abbrev pub PartsLeft : ReaderState → List P → ℕ → Type 0
  PartsLeft s ps e =
      MoreParts s.text (closer_of b) (PartAt b s.text) (IsPart s.names s.text) ps s.position e

  module _ {K : Type 0} (key : P → K) (value : P → Node) where
    -- what a call for a part replies where these are left, up to e
    abbrev pub TellsOf : ReaderState → List P → ℕ → Reply (Option K) → Type 0
    TellsOf s [] e r = r ≡ gave None e
    TellsOf s (p ∷ ps) e r = (i : ℕ) × (r ≡ gave (Some (key p)) i) × ComesNext (with_position s i) (value p)
        × PartsLeft (with_position s (end (value p))) ps e

    -- what such a call gave, and where it left the reader
    abbrev pub GivenAt : ReaderState → List P → ℕ → Option K → Type 0
    GivenAt s [] e None = s.position ≡ e
    GivenAt s (p ∷ ps) e (Some x) =
        (x ≡ key p) × ComesNext s (value p) × PartsLeft (with_position s (end (value p))) ps e
    GivenAt s ps e o = ⊥

    pub part-given : (old s : ReaderState) (ps : List P) (e : ℕ) (r : Reply (Option K)) (o : Option K)
        → TellsOf old ps e r → r ≡ gave o s.position → s ≡ with_position old s.position → GivenAt s ps e o
    part-given old s [] e r None told is same = sym (gave-is None None e s.position (sym told ∙ is)).1
    part-given old s [] e r (Some x) told is same =
        absurd (none-some _ (gave-is None (Some x) e s.position (sym told ∙ is)).0)
    part-given old s (p ∷ ps) e r None told is same =
        absurd (none-some _ (sym (gave-is (Some (key p)) None told.0 s.position (sym told.1 ∙ is)).0))
    part-given old s (p ∷ ps) e r (Some x) told is same =
        let both = gave-is (Some (key p)) (Some x) told.0 s.position (sym told.1 ∙ is) in
        let here : with_position old told.0 ≡ s = ap (with_position old) both.1 ∙ sym same in (
          some-is x (key p) (sym both.0),
          subst (λ (v : ReaderState). ComesNext v (value p)) here told.2,
          subst (λ (v : ReaderState). PartsLeft (with_position v (end (value p))) ps e) here told.3,
        )

    -- Such a call is not refused.
    pub part-not_refused : (old : ReaderState) (ps : List P) (e : ℕ) (r : Reply (Option K)) (c : Cause) (x stop : ℕ)
        → TellsOf old ps e r → r ≡ refused c x stop → ⊥
    part-not_refused old [] e r c x stop told is = gave-refused (sym told ∙ is)
    part-not_refused old (p ∷ ps) e r c x stop told is = gave-refused (sym told.1 ∙ is)

    module _ (s : ReaderState) (told : ℕ → Reply (Option K))
        (meets : (i : ℕ) (p : P) (e : ℕ) → IsPart s.names s.text i p e → MeetsPart s told (key p) (value p) i e) where
      abbrev Rest : List P → ℕ → ℕ → Type 0
      Rest ps e m = MoreParts s.text (closer_of b) (PartAt b s.text) (IsPart s.names s.text) ps m e

      part-told : (p : P) (ps : List P) (i e : ℕ) (x : Step)
          → (h : PartThen s.text (closer_of b) (PartAt b s.text) (IsPart s.names s.text) i p (Rest ps e))
          → x ≡ more h.begin → TellsOf s (p ∷ ps) e (part_reply told x)
      part-told p ps i e x h is =
          let m = meets h.begin p h.end h.is in
          (m.after, ap (part_reply told) is ∙ m.is, m.comes, subst (Rest ps e) (sym m.ends) h.rest)

      -- After the bracket.
      pub first-tells : (ps : List P) (i e : ℕ)
          → Parts s.text (closer_of b) (PartAt b s.text) (IsPart s.names s.text) ps i e
          → TellsOf s ps e (part_reply told (step s.text (container_first b) i))
      first-tells [] i e h = ap (part_reply told) ((delimits s.text b).first-closed i e h)
      first-tells (p ∷ ps) i e h =
          part-told p ps i e _ h ((delimits s.text b).first-more i h.begin h.blanks h.begins)

      -- After a part.
      pub next-tells : (ps : List P) (e : ℕ) → PartsLeft s ps e
          → TellsOf s ps e (part_reply told (step s.text (container_step b s.text) s.position))
      next-tells [] e h = ap (part_reply told) ((delimits s.text b).next-closed s.position e h)
      next-tells (p ∷ ps) e h =
          part-told p ps h.0 e _ h.2
          ((delimits s.text b).next-more s.position h.0 h.2.begin h.1 h.2.blanks h.2.begins)

-- ---- items
abbrev pub AnItem : Bool → List ℕ → ℕ → Node → ℕ → Type 0
AnItem names t = IsItem names t nesting_limit

-- after an item these are left, up to e
abbrev pub ItemsLeft : ReaderState → List Node → ℕ → Type 0
ItemsLeft = PartsLeft shape.Array AnItem

-- the byte that an item begins with
abbrev pub first_byte : List ℕ → Node → ℕ
first_byte t n = slice_index t (begin n)

abbrev pub ItemTold : ReaderState → List Node → ℕ → Reply (Option ℕ) → Type 0
ItemTold s = TellsOf shape.Array AnItem (first_byte s.text) (λ n. n) s

module _ (s : ReaderState) where
  comes-there : (n : Node) (i : ℕ) → Spells s.names s.text n → nesting n < nesting_limit → EndsNumber s.text (end n)
      → past_blanks s.text i ≡ begin n → ComesNext (with_position s i) n
  comes-there n i h limit quiet place =
      record {
        stands = record { place = place; spelled = h; limit = omega (arith, limit) };
        quiet = quiet;
      }

  pub item-meets : (i : ℕ) (n : Node) (e : ℕ) → AnItem s.names s.text i n e
      → MeetsPart s (λ j. gave (Some (slice_index s.text j)) j) (first_byte s.text n) n i e
  item-meets i n e h = record {
    after = i;
    is = ap (λ j. gave (Some (slice_index s.text j)) i) (sym h.begins);
    comes = comes-there n i h.spelled h.limit (subst (EndsNumber s.text) (sym h.ends) h.quiet)
        (place-there s.names s.text n h.spelled i h.begins);
    ends = h.ends;
  }

  -- An array that comes next: its first item, or its end.
  pub array-tells : (b e : ℕ) (ns : Nodes) → StandsNext s (array b e ns)
      → ItemTold s (nodes_list ns) e (next s (array_read s))
  array-tells b e ns h =
      subst (ItemTold s (nodes_list ns) e) (sym (next-reads s (array b e ns) h (array_read s)))
      (first-tells shape.Array AnItem (first_byte s.text) (λ n. n) s _ item-meets (nodes_list ns) (b + 1) e
      (items-parts s.names s.text nesting_limit ns (b + 1) e h.spelled.1 h.limit))

  -- After an item: the next one, or the array's end.
  pub item-tells : (ns : List Node) (e : ℕ) → ItemsLeft s ns e → ItemTold s ns e (item_step s)
  item-tells = next-tells shape.Array AnItem (first_byte s.text) (λ n. n) s _ item-meets

-- ---- members
abbrev pub AMember : Bool → List ℕ → ℕ → Key × Node → ℕ → Type 0
AMember names t = IsMember names t nesting_limit

-- after a member these are left, up to e
abbrev pub MembersLeft : ReaderState → NodeMembers → ℕ → Type 0
MembersLeft s ms e = PartsLeft shape.Object AMember s (members_list ms) e

-- the key of a member, seen so
abbrev pub key_of : (Key → Text) → Key × Node → Text
key_of view m = view m.0

abbrev pub node_of : Key × Node → Node
node_of m = m.1

abbrev pub KeyTold : (Key → Text) → ReaderState → NodeMembers → ℕ → Reply (Option Text) → Type 0
KeyTold view s ms e r = TellsOf shape.Object AMember (key_of view) node_of s (members_list ms) e r

-- what a call for a key gave, and where it left the reader
abbrev pub KeyAt : (Key → Text) → ReaderState → NodeMembers → ℕ → Option Text → Type 0
KeyAt view s ms e o = GivenAt shape.Object AMember (key_of view) node_of s (members_list ms) e o

pub key-given : (view : Key → Text) (old s : ReaderState) (ms : NodeMembers) (e : ℕ) (r : Reply (Option Text))
    (o : Option Text) → KeyTold view old ms e r → r ≡ gave o s.position → s ≡ with_position old s.position
    → KeyAt view s ms e o
key-given view old s ms = part-given shape.Object AMember (key_of view) node_of old s (members_list ms)

pub key-not_refused : (view : Key → Text) (old : ReaderState) (ms : NodeMembers) (e : ℕ) (r : Reply (Option Text))
    (c : Cause) (x stop : ℕ) → KeyTold view old ms e r → r ≡ refused c x stop → ⊥
key-not_refused view old ms = part-not_refused shape.Object AMember (key_of view) node_of old (members_list ms)

-- where a key's string is read so
abbrev pub SeesKeys : Form → (Key → Text) → List ℕ → Type 0
SeesKeys f view t = (k : Key) (j : ℕ) → SpellsKey t k j → string_at f t k.begin ≡ taken (view k) k.end

module _ (f : Form) (view : Key → Text) (s : ReaderState) (sees : SeesKeys f view s.text) where
  pub member-meets : (i : ℕ) (m : Key × Node) (e : ℕ) → AMember s.names s.text i m e
      → MeetsPart s (λ j. key_reply s.text j (string_at f s.text j)) (view m.0) m.1 i e
  member-meets i m e h =
      let value = h.value in
      record {
        after = h.key.colon;
        is = ap (λ j. key_reply s.text j (string_at f s.text j)) (sym h.begins)
            ∙ ap (key_reply s.text m.0.begin) (sees m.0 (begin m.1) h.key)
            ∙ ap (colon_reply (view m.0)) (colon-taken s.text m.0 (begin m.1) h.key);
        comes = comes-there s m.1 h.key.colon value.spelled value.limit
            (subst (EndsNumber s.text) (sym value.ends) value.quiet)
            (place-after s.names s.text m.1 value.spelled h.key.colon h.key.blanks);
        ends = value.ends;
      }

  -- An object that comes next: its first key, or its end.
  pub object-tells : (b e : ℕ) (ms : NodeMembers) → StandsNext s (object b e ms)
      → KeyTold view s ms e (next s (object_read f s))
  object-tells b e ms h =
      subst (KeyTold view s ms e) (sym (next-reads s (object b e ms) h (object_read f s)))
      (first-tells shape.Object AMember (key_of view) node_of s _ member-meets (members_list ms) (b + 1) e
      (members-parts s.names s.text nesting_limit ms (b + 1) e h.spelled.1 h.limit))

  -- After a member: the next key, or the object's end.
  pub key-tells : (ms : NodeMembers) (e : ℕ) → MembersLeft s ms e → KeyTold view s ms e (key_step f s)
  key-tells ms = next-tells shape.Object AMember (key_of view) node_of s _ member-meets (members_list ms)

-- a key as it is between its quotes, and decoded
abbrev pub raw_key : List ℕ → Key → Text
raw_key t k = between t (k.begin + 1) (k.end - 1)

abbrev pub whole_key : List ℕ → Key → Text
whole_key t k = text_at t k.pieces k.begin k.end

pub sees-whole : (t : List ℕ) → SeesKeys whole (whole_key t) t
sees-whole t k j s = string_at-complete t k.begin k.end k.pieces s.string

pub sees-raw : (t : List ℕ) → SeesKeys raw (raw_key t) t
sees-raw t k j s = raw-whole t k.begin k.end _ (sees-whole t k j s)

-- no object
abbrev pub IsNoObject : Node → Type 0
IsNoObject (object b e ms) = ⊥
IsNoObject n = Unit {0}

-- no array
abbrev pub IsNoArray : Node → Type 0
IsNoArray (array b e ns) = ⊥
IsNoArray n = Unit {0}

-- After the document's value nothing is left.
pub finish-ends : (s : ReaderState) → IsBlank s.text s.position (length s.text) → finish s ≡ gave tt (length s.text)
finish-ends s h =
    ap (λ i. end_reply i (slice_get s.text i)) (blank-to_end s.text s.position h)
    ∙ ap (end_reply (length s.text)) (slice_get_past s.text (length s.text) (omega arith))

-- After a call for the next key the reader has moved on.
module _ (f : Form) (t : List ℕ) (o : Option Text) (i : ℕ) where
  colon-after : (j : ℕ) (k : Text) (x : Span) → SpanAhead t j 1 x → colon_reply k x ≡ gave o i → j < i
  colon-after j k (taken u e) h is = omega (arith, h.0, (gave-is _ _ e i is).1)
  colon-after j k (failed c e) h is = absurd (gave-refused (sym is))

  key-after : (j : ℕ) (x : Scanned Text) → ScalarWithin t j x → key_reply t j x ≡ gave o i → j < i
  key-after j (taken k e) h is = omega (arith, h.0, colon-after e k (step t colon e) (colon-ahead t e h.1) is)
  key-after j (failed c e) h is = absurd (gave-refused (sym is))

  step-after : (j : ℕ) (x : Step) → Ahead t j x → member_reply f t x ≡ gave o i → j < i
  step-after j (more k) h is = omega (arith, h.0, key-after k (string_at f t k) (string_at-within f t k h.1) is)
  step-after j (closed e) h is = omega (arith, h.0, (gave-is _ _ e i is).1)
  step-after j (stuck c e) h is = absurd (gave-refused (sym is))

pub key-ahead : (f : Form) (s : ReaderState) (o : Option Text) (i : ℕ) → s.position ≤ length s.text
    → key_step f s ≡ gave o i → s.position < i
key-ahead f s o i within is =
    step-after f s.text o i s.position _ (container_step-ahead s.text shape.Object s.position within) is

-- After a call for the next item too: the comma was passed, or the closer.
abbrev Past : ℕ → Step → Type 0
Past i (more j) = i < j
Past i (closed e) = i < e
Past i (stuck k j) = Unit {0}

comma-past : (b : ContainerKind) (t : List ℕ) (i j : ℕ) → i < j → Past i (step t (container_comma b) j)
comma-past b t i j before = by (slice_get t (past_blanks t j)) where
  by : (o : Option ℕ) → Past i (container_comma b (past_blanks t j) o)
  by None = tt
  by (Some c) =
      either (Past i) (begins_part b c) _ _ (omega (arith, before, past_blanks-after t j))
      (either (Past i) (c == closer_of b) _ _ tt tt)

step-past : (b : ContainerKind) (t : List ℕ) (i : ℕ) → Past i (step t (container_step b t) i)
step-past b t i = by (slice_get t (past_blanks t i)) where
  by : (o : Option ℕ) → Past i (container_step b t (past_blanks t i) o)
  by None = tt
  by (Some c) =
      let past : i < past_blanks t i + 1 = omega (arith, past_blanks-after t i) in
      either (Past i) (c == closer_of b) _ _ past
      (either (Past i) (c == 44) _ _ (comma-past b t i (past_blanks t i + 1) past) tt)

pub item-ahead : (s : ReaderState) (o : Option ℕ) (i : ℕ) → item_step s ≡ gave o i → s.position < i
item-ahead s o i is = by _ (step-past shape.Array s.text s.position) is where
  by : (x : Step) → Past s.position x → part_reply (λ j. gave (Some (slice_index s.text j)) j) x ≡ gave o i
      → s.position < i
  by (more j) h same = omega (arith, h, (gave-is _ _ j i same).1)
  by (closed e) h same = omega (arith, h, (gave-is _ _ e i same).1)
  by (stuck k j) h same = absurd (gave-refused (sym same))

-- After a skip too.
pub skip-ahead : (s : ReaderState) (e : ℕ) → next s (skip_read s) ≡ gave tt e → s.position < e
skip-ahead s e is = by (slice_get s.text (value_place s)) refl is where
  passed : (x : Reading (Unit {0})) → Within s.text (value_place s) x → value_reply x ≡ gave tt e → s.position < e
  passed (done u m) h same = omega (arith, h.0, (gave-is _ _ m e same).1, past_blanks-after s.text s.position)
  passed (fault k i stop) h same = absurd (gave-refused (sym same))

  by : (o : Option ℕ) → slice_get s.text (value_place s) ≡ o
      → if_byte (value_place s) o (λ c. skip_read s (value_place s) (start_of c)) ≡ gave tt e → s.position < e
  by None there same = absurd (gave-refused (sym same))
  by (Some c) there same =
      passed (skip_at s.names s.text (value_place s))
      (skip_at-within s.text s.names (value_place s) (slice_get_within s.text (value_place s) c there)) same

-- what a call for a key replied, seen so, refused
pub seen-refused : {A B : Type 0} (g : A → B) (r : Reply A) (c : Cause) (x stop : ℕ)
    → reply_seen g r ≡ refused c x stop → r ≡ refused c x stop
seen-refused g (gave a i) c x stop h = absurd (gave-refused h)
seen-refused g (refused d y i) c x stop h = cc

-- A key that was borrowed, and what the caller keeps of it.
pub key-kept : {B K : Type 0} (bytes : B → List ℕ) (read : List ℕ → K) (key : Option B) (o : Option K)
    (r : Reply (Option Text)) (i : ℕ) → reply_seen key_bytes r ≡ gave (option_map bytes key) i
    → o ≡ option_map (λ x. read (bytes x)) key → reply_seen (option_map (λ x. read x.bytes)) r ≡ gave o i
key-kept {B = B} {K = K} bytes read key o r i h is =
    by-reply r ∙ ap (reply_seen (option_map read)) h ∙ ap (λ x. gave x i) (by-key key ∙ sym is) where
      by-read : (k : Option Text) → option_map (λ x. read x.bytes) k ≡ option_map read (key_bytes k)
      by-read None = refl
      by-read (Some x) = refl

      by-reply : (r : Reply (Option Text))
          → reply_seen (option_map (λ x. read x.bytes)) r ≡ reply_seen (option_map read) (reply_seen key_bytes r)
      by-reply (gave k j) = ap (λ x. gave x j) (by-read k)
      by-reply (refused c x stop) = refl

      by-key : (key : Option B) → option_map read (option_map bytes key) ≡ option_map (λ x. read (bytes x)) key
      by-key None = refl
      by-key (Some x) = refl
