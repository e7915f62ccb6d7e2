-- What is left of a container after the parts that the client has built, by the replies of its calls.
use Rattle.jiter.proofs.Words.{◌≡◌, ◌∙◌, refl, sym, ap, ℕ, ◌+◌, ◌<◌, Bool, true, false, List, [], ◌∷◌, ◌++◌, length}
use Rattle.jiter.proofs.Words.{arith, slice_get, slice_index, Option, Some, None, option_map, IfSome}
use Rattle.jiter.proofs.Words.{get_or_from_slice_get, slice_get-get_or, slice_get_within, none-some, Scanned, taken}
use Rattle.jiter.proofs.Words.{failed, Span, number_at, span_then, number_at-within, past_blanks, literal_at}
use Rattle.jiter.proofs.Words.{start_of, whole, string_at, Text, Tree, Step, more, closed, stuck, step, colon, Reading}
use Rattle.jiter.proofs.Words.{done, fault, scalar_at, inside_at, seen_as, Start, past_blanks-after, Ahead, Within}
use Rattle.jiter.proofs.Words.{literal_at-within, string_at-within, owned_text, owned_trees, built, StandsAt}
use Rattle.jiter.proofs.Words.{reply_seen, ReaderState, Reply, gave, refused, with_position, if_byte, next}
use Rattle.jiter.proofs.Words.{scalar_reply, bool_read, value_reply, part_reply, item_step, colon_reply, key_reply}
use Rattle.jiter.proofs.Words.{key_step}
use Rattle.jiter_steps.specs.Literal.{literal_tree}
use Rattle.jiter_steps.specs.Tree as tree
use Rattle.jiter_steps.specs.Step.{value_first, object_step}
use Rattle.jiter_steps.specs.Read.{Container, with_key, after_colon, after_key}
use Rattle.jiter_steps.specs.Read.{follow, after_part, parts_at, array_of, object_of}
use Rattle.jiter_steps.specs.declared.parse.Literal.{Literal}
use Rattle.jiter_steps.specs.declared.parse.Literal.TheVariants as literal
use Rattle.jiter_steps.specs.declared.parse.Start.TheVariants as start
use Rattle.jiter_steps.proofs.Reading.Values.{Advances, AllWithin, Goes, array_of-goes, object_of-goes}
use Rattle.jiter_steps.proofs.Reading.Values.{inside_at-within, parts_at_is}
use Rattle.jiter_steps.proofs.Reading.Instances.{seen-within}
use Rattle.jiter.specs.Client.{built_inside, IsTruthOrNothing}

-- a value that was given ends after its begin
pub gave-ahead : {A : Type 0} (t : List ℕ) (i : ℕ) (x : Reading A) → Within t i x → (a : A) (e : ℕ)
    → value_reply x ≡ gave a e → i < e
gave-ahead t i (done b f) w a e h = let same : f ≡ e = cc in omega (arith, w.0)
gave-ahead t i (fault k x stop) w a e h = absurd (cc)

module _ (names : Bool) (t : List ℕ) where
  pub owned-advances : Advances (owned_trees names) t
  owned-advances = record {
    literal = λ l i h. seen-within _ t i (literal_at t l i) (literal_at-within t l i (omega arith));
    number = λ i h. seen-within _ t i (number_at names t i) (number_at-within names t i h);
    text = λ i h. seen-within _ t i (string_at whole t i) (string_at-within whole t i h);
    key = λ i h. seen-within _ t i (string_at whole t i) (string_at-within whole t i h);
    refuses = λ members i j k h e. absurd (none-some _ e);
  }

  pub built_inside-within : (levels : ℕ) → AllWithin t (inside_at (owned_trees names) t levels)
  built_inside-within levels = inside_at-within (owned_trees names) t owned-advances levels

-- How the client goes through a container: what it is told where a part begins, which byte is there then, the call
-- for the part's value, the part that this makes, and the call after a part.
pub record Walk (K P : Type 0) : Type 0 where
  pub container : Container P Tree
  pub told : ℕ → Reply (Option K)
  pub byte : K → Option ℕ
  pub asked : ReaderState → Reply Tree
  pub part : K → Tree → P
  pub stepped : ReaderState → Reply (Option K)

module _ {K P : Type 0} (s0 : ReaderState) (w : Walk K P) where
  -- the parts from i on, after these
  abbrev parts_from : List P → ℕ → Reading Tree
  parts_from parts i = parts_at (owned_trees s0.names) w.container s0.text (length s0.text) parts i

  -- what a step after these parts leads to
  abbrev pub led : List P → Step → Reply Tree
  led parts s = value_reply (follow (owned_trees s0.names) (parts_from parts) (λ e. w.container.build e parts) s)

  -- what the container at s0 is read as
  abbrev pub all : Reply Tree
  all = led [] (step s0.text w.container.first (s0.position + 1))

  -- after these parts and the one of this reply
  abbrev pub after : List P → Reply P → Reply Tree
  after parts (gave p e) = led (parts ++ p ∷ []) (step s0.text w.container.next e)
  after parts (refused c i stop) = refused c i stop

  -- the part of which k was told, its value asked for at i
  abbrev rest : K → ℕ → Reply P
  rest k i = reply_seen (w.part k) (w.asked (with_position s0 i))

  -- What is left after these parts: the next one, of which k was told, or the container has ended before i.
  abbrev pub left : Option K → List P → ℕ → Reply Tree
  left None parts i = gave (w.container.build i parts) i
  left (Some k) parts i = after parts (rest k i)

  -- the byte that was told is at i
  abbrev pub ToldAt : Option K → ℕ → Type 0
  ToldAt o i = IfSome o (λ k. IfSome (w.byte k) (λ c. slice_get s0.text i ≡ Some c))

  -- what is told where a part begins, of that part
  abbrev pub Begins : Reply P → Reply (Option K) → Type 0
  Begins x (gave None i) = ⊥
  Begins x (gave (Some k) i) = (x ≡ rest k i) × ToldAt (Some k) i
  Begins x (refused c i stop) = x ≡ refused c i stop

  -- what the reply of a step says of what is left then
  abbrev pub LeadsTo : List P → Reply Tree → Reply (Option K) → Type 0
  LeadsTo parts x (gave o i) = (x ≡ left o parts i) × ToldAt o i
  LeadsTo parts x (refused c i stop) = x ≡ refused c i stop

-- The steps lead on, each reply that tells of a part tells what it is, and each part that was built ends further on.
pub record WalkLaws {K P : Type 0} (s0 : ReaderState) (w : Walk K P) : Type 0 where
  pub goes : Goes w.container s0.text
  pub free : (parts : List P) (i : ℕ) → w.container.refuses parts i ≡ None
  pub begins : (i : ℕ) → i < length s0.text → Begins s0 w (value_reply (w.container.part i)) (w.told i)
  pub steps : (i : ℕ) → w.stepped (with_position s0 i) ≡ part_reply w.told (step s0.text w.container.next i)
  pub ahead : (k : K) (i : ℕ) (v : Tree) (e : ℕ) → ToldAt s0 w (Some k) i → w.asked (with_position s0 i) ≡ gave v e
      → i < e

module _ {K P : Type 0} (s0 : ReaderState) (w : Walk K P) (laws : WalkLaws s0 w) where
  after-part : (parts : List P) (x : Reading P)
      → value_reply (after_part (owned_trees s0.names) w.container s0.text (parts_from s0 w) parts x)
      ≡ after s0 w parts (value_reply x)
  after-part parts (done p e) = refl
  after-part parts (fault k i stop) = refl

  begun-leads : (parts : List P) (y : Reply Tree) (x : Reply P) (r : Reply (Option K)) → y ≡ after s0 w parts x
      → Begins s0 w x r → LeadsTo s0 w parts y r
  begun-leads parts y x (gave None i) h b = absurd b
  begun-leads parts y x (gave (Some k) i) h b = (h ∙ ap (after s0 w parts) b.0, b.1)
  begun-leads parts y x (refused c i stop) h b = h ∙ ap (after s0 w parts) b

  -- a step leads to what its reply says
  pub leads : (parts : List P) (m : ℕ) (s : Step) → Ahead s0.text m s
      → LeadsTo s0 w parts (led s0 w parts s) (part_reply w.told s)
  leads parts m (more i) a =
      begun-leads parts (value_reply (parts_from s0 w parts i)) (value_reply (w.container.part i)) (w.told i)
      (ap value_reply (parts_at_is (owned_trees s0.names) s0.text w.container laws.goes parts i a.1
      (laws.free parts i))
      ∙ after-part parts (w.container.part i))
      (laws.begins i a.1)
  leads parts m (closed e) a = (refl, tt)
  leads parts m (stuck k i) a = refl

-- seen as it is
seen-same : {A : Type 0} (r : Reply A) → r ≡ reply_seen (λ a. a) r
seen-same (gave a e) = refl
seen-same (refused c i stop) = refl

-- a step's reply, what it tells seen so
pub seen-part : {K L : Type 0} (f : K → L) (told : ℕ → Reply (Option K)) (s : Step)
    → reply_seen (option_map f) (part_reply told s) ≡ part_reply (λ i. reply_seen (option_map f) (told i)) s
seen-part f told (more i) = refl
seen-part f told (closed e) = refl
seen-part f told (stuck k i) = refl

module _ (s0 : ReaderState) (levels : ℕ) where
  abbrev inner : ℕ → Reading Tree
  inner = inside_at (owned_trees s0.names) s0.text levels

  -- The array whose bracket is at s0: its items' first bytes are told.
  abbrev pub items : Walk ℕ Tree
  items = record {
    container = array_of (owned_trees s0.names) inner s0.text s0.position;
    told = λ i. gave (Some (slice_index s0.text i)) i;
    byte = λ c. Some c;
    asked = λ s. built_inside s levels s.position;
    part = λ c v. v;
    stepped = λ s. item_step s;
  }

  pub items-laws : WalkLaws s0 items
  items-laws = record {
    goes =
        array_of-goes (owned_trees s0.names) s0.text (owned-advances s0.names s0.text) inner
        (built_inside-within s0.names s0.text levels) s0.position;
    free = λ parts i. refl;
    begins = λ i lt. (seen-same (value_reply (inner i)), slice_get-get_or s0.text i 0 lt);
    steps = λ i. refl;
    ahead = λ k i v e at h. gave-ahead s0.text i (inner i)
        (built_inside-within s0.names s0.text levels i (slice_get_within s0.text i k at)) v e h;
  }

  -- The object whose bracket is at s0: its members' keys are told, their colons consumed.
  abbrev pub members : Walk Text (Text × Tree)
  members = record {
    container = object_of (owned_trees s0.names) inner s0.text s0.position;
    told = λ i. reply_seen (option_map owned_text) (key_reply s0.text i (string_at whole s0.text i));
    byte = λ key. None;
    asked = λ s. next s (λ i b. built_inside s levels i);
    part = λ key v. (key, v);
    stepped = λ s. reply_seen (option_map owned_text) (key_step whole s);
  }

  keyed-value : (key : Text) (x : Reading Tree)
      → value_reply (with_key key x) ≡ reply_seen (λ v. (key, v)) (value_reply x)
  keyed-value key (done v e) = refl
  keyed-value key (fault k i stop) = refl

  value-begins : (key : Text) (p : ℕ) (o : Option ℕ)
      → value_reply (after_colon key inner (value_first p o))
      ≡ reply_seen (λ v. (key, v)) (if_byte p o (λ c. value_reply (inner p)))
  value-begins key p None = refl
  value-begins key p (Some c) = keyed-value key (inner p)

  colon-begins : (key : Text) (x : Span)
      → Begins s0 members (value_reply (after_colon (owned_text key) inner (span_then x (step s0.text value_first))))
      (reply_seen (option_map owned_text) (colon_reply key x))
  colon-begins key (taken u j) =
      (value-begins (owned_text key) (past_blanks s0.text j) (slice_get s0.text (past_blanks s0.text j)), tt)
  colon-begins key (failed k j) = refl

  key-begins : (i : ℕ) (x : Scanned Text)
      → Begins s0 members (value_reply (after_key inner s0.text i (seen_as (λ s e. owned_text s) x)))
      (reply_seen (option_map owned_text) (key_reply s0.text i x))
  key-begins i (taken key e) = colon-begins key (step s0.text colon e)
  key-begins i (failed k j) = refl

  value-ahead : (p : ℕ) (o : Option ℕ) (v : Tree) (e : ℕ) → slice_get s0.text p ≡ o
      → if_byte p o (λ c. value_reply (inner p)) ≡ gave v e → p < e
  value-ahead p None v e q h = absurd (cc)
  value-ahead p (Some c) v e q h =
      gave-ahead s0.text p (inner p)
      (built_inside-within s0.names s0.text levels p (slice_get_within s0.text p c q)) v e h

  member-ahead : (i : ℕ) (v : Tree) (e : ℕ) → members.asked (with_position s0 i) ≡ gave v e → i < e
  member-ahead i v e h =
      let p = past_blanks s0.text i in
      let after = value-ahead p (slice_get s0.text p) v e refl h in
      omega (arith, after, past_blanks-after s0.text i)

  pub members-laws : WalkLaws s0 members
  members-laws = record {
    goes =
        object_of-goes (owned_trees s0.names) s0.text (owned-advances s0.names s0.text) inner
        (built_inside-within s0.names s0.text levels) s0.position;
    free = λ parts i. refl;
    begins = λ i lt. key-begins i (string_at whole s0.text i);
    steps = λ i. seen-part owned_text (λ j. key_reply s0.text j (string_at whole s0.text j))
        (step s0.text (object_step s0.text) i);
    ahead = λ key i v e at h. member-ahead i v e h;
  }

-- a literal that is a truth value
truth-built : (i : ℕ) (l : Literal) (b : Bool) (x : Span) → literal_tree l ≡ tree.boolean b
    → reply_seen tree.boolean (scalar_reply i (seen_as (λ u e. b) x))
    ≡ value_reply (scalar_at i (seen_as (λ u e. literal_tree l) x))
truth-built i l b (taken u e) is = ap (λ v. gave v e) (sym is)
truth-built i l b (failed k j) is = refl

-- by the reply of the call that reads it
pub bool-built : (s : ReaderState) (b : Start) → IsTruthOrNothing b
    → reply_seen tree.boolean (bool_read s s.position b) ≡ built s 0 b
bool-built s (start.Literal literal.True) is = truth-built s.position literal.True true _ refl
bool-built s (start.Literal literal.False) is = truth-built s.position literal.False false _ refl
bool-built s (start.Literal literal.Null) is = absurd is
bool-built s start.Nothing is = refl
bool-built s start.Array is = absurd is
bool-built s start.Object is = absurd is
bool-built s start.String is = absurd is
bool-built s start.Number is = absurd is

-- where a byte is, a value begins as it says
pub known-first : (s : ReaderState) (c : ℕ) → StandsAt s c → start_of (slice_index s.text s.position) ≡ start_of c
known-first s c h = ap start_of (get_or_from_slice_get s.text s.position c 0 h)
