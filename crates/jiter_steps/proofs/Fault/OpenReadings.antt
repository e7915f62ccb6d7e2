-- A value whose reading meets an error that can go on can be ended after the bytes before it.
use Rattle.jiter_steps.proofs.Words.{◌≡◌, inl, inr, ℕ, zero, suc, ◌+◌, ◌<◌, ◌≤◌, Bool, List, [], ◌++◌, length, take}
use Rattle.jiter_steps.proofs.Words.{refl, sym, ◌∙◌, subst, arith, codes, slice_get, slice_index, Option, Some, None}
use Rattle.jiter_steps.proofs.Words.{◌==◌, chars, utf8_valid_len, false≢true, slice_get_within, number_at, Scanned}
use Rattle.jiter_steps.proofs.Words.{taken, failed, Span, ScalarWithin, seen_as, past_blanks, start_of, word_of, Key}
use Rattle.jiter_steps.proofs.Words.{Node, begin, end, StandsAfter, SpellsNumber, SpellsKey, Spells, nesting}
use Rattle.jiter_steps.proofs.Words.{SpellsString, Reading, done, fault, scalar_at, with_key, after_colon, after_key}
use Rattle.jiter_steps.proofs.Words.{value_with, Container, container_at, inside_at, value_at, step, colon, value_first}
use Rattle.jiter_steps.proofs.Words.{object_colon, Stop, unclosed, cut, wrong, whole, body_at, text_in_form, content_at}
use Rattle.jiter_steps.proofs.Words.{string_at, Text, Start}
use Rattle.jiter_steps.specs.Node as grammar
use Rattle.jiter_steps.specs.StringReading.{closed}
use Rattle.jiter_steps.specs.declared.parse.Start.TheVariants as start
use Rattle.jiter_steps.proofs.Reading.Bodies.{StopWithin, body_at-within}
use Rattle.jiter_steps.proofs.Reading.Bounds.{either}
use Rattle.jiter_steps.proofs.Fault.Completions.{close-map, OpenTo, open-map, no-blanks, taken-length, taken-after}
use Rattle.jiter_steps.proofs.Fault.Completions.{taken-first, prefix-kept}
use Rattle.jiter_steps.proofs.Grammar.NodeRules.{nodes, nodes_of, node_members_of, key_of, pieces_from}
use Rattle.jiter_steps.proofs.Fault.OpenNumbers.{LiveIs, map-live, then-live, word-live, no_live, zero-number}
use Rattle.jiter_steps.proofs.Fault.OpenNumbers.{CanEndNumber, number-open}
use Rattle.jiter_steps.proofs.Fault.OpenParts.{Anywhere, CanEndHere, Fillable, container_at-open}
use Rattle.jiter_steps.proofs.Reading.Parts.{Grammar, parts-are}
use Rattle.jiter_steps.specs.declared.parse.ContainerKind.TheVariants as shape
use Rattle.jiter_steps.proofs.Grammar.RowSteps.{Delimits, ByteAt, PartAt, begins-quote, PartAfter, After, SpanIs}
use Rattle.jiter_steps.proofs.Grammar.RowSteps.{delimits, object_colon-is}
use Rattle.jiter_steps.proofs.Fault.SameSpelling.{SameBefore, place-too, key-too, spells-too}
use Rattle.jiter_steps.proofs.Grammar.Sound.{array-byte, object-byte, byte-here, IsNodeAt, IsItemAt, IsMemberAt, array}
use Rattle.jiter_steps.proofs.Grammar.Sound.{object, array-goes, object-goes, ItemsAre, MoreItemsAre, MembersAre}
use Rattle.jiter_steps.proofs.Grammar.Sound.{MoreMembersAre, items-grammar, members-grammar, item-read, member-read}
use Rattle.jiter_steps.proofs.Grammar.Sound.{inside_at-sound}
use Rattle.jiter_steps.proofs.Grammar.StringLaws.{string_at-within, string_at-sound}
use Rattle.jiter_steps.proofs.Grammar.SpelledParts.{key-ahead, node-ahead}
use Rattle.jiter_steps.proofs.Fault.StuckSteps.{Sticks, sticks}
use Rattle.jiter_steps.proofs.Reading.Values.{Goes}

-- at an error that can go on, something like this can be ended
abbrev pub OpenAs : {P A : Type 0} → (List ℕ → ℕ → P → ℕ → Type 0) → List ℕ → ℕ → Reading A → Type 0
OpenAs Is t i x = OpenTo (CanEndHere Is t i) x

module _ (t : List ℕ) (At : ℕ → Type 0) where
  text_in_form-live : (i : ℕ) (bs : List ℕ) (o : Bool) (s : Stop) → StopWithin t i s
      → LiveIs At (text_in_form whole t i bs o s)
  text_in_form-live i bs o (wrong k j) w = λ live. absurd (false≢true (sym (grind (arith, w.2)) ∙ live))
  text_in_form-live i bs o (closed e) w =
      either (LiveIs At) (utf8_valid_len bs == length bs) _ _ tt no_live
  text_in_form-live i bs o unclosed w = no_live
  text_in_form-live i bs o cut w = no_live

  string-live : (i : ℕ) → LiveIs At (string_at whole t i)
  unfolding content_at
  string-live i =
      let b = body_at t (i + 1) in text_in_form-live (i + 1) b.bytes b.owned b.stop (body_at-within t (i + 1))

  colon-live : (j : ℕ) (o : Option ℕ) → LiveIs At (colon j o)
  colon-live j None = no_live
  colon-live j (Some c) = either (LiveIs At) (c == 58) _ _ tt no_live

  value_first-live : (j : ℕ) (o : Option ℕ) → LiveIs At (value_first j o)
  value_first-live j None = no_live
  value_first-live j (Some c) = tt

  object_colon-live : (i : ℕ) → LiveIs At (object_colon t i)
  object_colon-live i =
      then-live At (step t colon i) (step t value_first) (colon-live (past_blanks t i) (slice_get t (past_blanks t i)))
      (λ e is. value_first-live (past_blanks t e) (slice_get t (past_blanks t e)))

module _ (names : Bool) where
  -- with a level left for it
  abbrev pub IsValue : ℕ → List ℕ → ℕ → Node → ℕ → Type 0
  IsValue levels u i n e = IsNodeAt names u i n e × (nesting n ≤ levels)

  abbrev IsItem : ℕ → List ℕ → ℕ → Node → ℕ → Type 0
  IsItem levels u i n e = IsItemAt names u levels i n e

  abbrev IsMember : ℕ → List ℕ → ℕ → Key × Node → ℕ → Type 0
  IsMember levels u i m e = IsMemberAt names u levels i m.0 m.1 e

  -- in each text with the same bytes before its end a node is
  node-too : (u v : List ℕ) (i e : ℕ) (n : Node) → SameBefore u v e → IsNodeAt names u i n e → IsNodeAt names v i n e
  node-too u v i e n same is = record {
    spelled = spells-too names u v e same n (omega (arith, is.ends)) is.spelled;
    begins = is.begins;
    ends = is.ends;
    within = place-too u v e same e (omega arith) is.within;
  }

  member-too : (levels : ℕ) (u v : List ℕ) (i e : ℕ) (m : Key × Node) → SameBefore u v e → IsMember levels u i m e
      → IsMember levels v i m e
  member-too levels u v i e m same is =
      let ahead = node-ahead names u m.1 is.value.spelled in
      record {
        begins = is.begins;
        key = key-too u v e same m.0 (begin m.1) (omega (arith, is.value.ends)) is.key;
        value = node-too u v (begin m.1) e m.1 same is.value;
        limit = is.limit;
      }

  number-node : (u : List ℕ) (x e : ℕ) → SpellsNumber names u x e → IsNodeAt names u x (grammar.number x e) e
  number-node u x e h = record { spelled = h; begins = refl; ends = refl; within = h.within }

  -- a zero in place of a value
  zero-node : (u : List ℕ) (x e : ℕ) → x + 1 ≡ e → slice_get u x ≡ Some 48 → IsNodeAt names u x (grammar.number x e) e
  zero-node u x e last h = number-node u x e (rw (← last) (zero-number names u x h))

  -- a zero after an empty key
  zero-member : (levels : ℕ) (t : List ℕ) (x : ℕ) → x ≤ length t → 0 < levels
      → (m : Key × Node) × IsMember levels (take x t ++ codes "\"\":0") x m (x + 4)
  zero-member levels t x within some =
      let w = codes "\"\":0" in
      let u = take x t ++ w in
      let long = taken-length t x within w in
      let key : Key = record { pieces = []; begin = x; end = x + 2 } in
      let string : SpellsString u x [] (x + 2) = record {
        opens = taken-first t x within w 34 refl;
        close = x + 1;
        spelled = refl;
        closes = taken-after t x within w 1 34 refl;
        ends = omega arith;
      } in
      let after : StandsAfter u (x + 2) 58 (x + 3) = record {
        at = x + 2;
        blanks = no-blanks u (x + 2) (x + 2) refl (omega arith);
        here = taken-after t x within w 2 58 refl;
        ends = omega arith;
      } in
      let blanks = no-blanks u (x + 3) (x + 3) refl (omega arith) in
      let value = zero-node u (x + 3) (x + 4) (omega arith) (taken-after t x within w 3 48 refl) in
      let spelled : SpellsKey u key (x + 3) =
      record { string = string; colon = x + 3; after = after; blanks = blanks } in
      ((key, _), record { begins = refl; key = spelled; value = value; limit = omega arith })

  -- Inside a container with so many levels left.
  module _ (t : List ℕ) (levels : ℕ)
      (all : (i : ℕ) → i < length t → OpenAs (IsItem levels) t i (inside_at (nodes names) t levels i)) where
    abbrev inner : ℕ → Reading Node
    inner i = inside_at (nodes names) t levels i

    items-fillable : (b : ℕ) → Fillable 93 (IsItem levels) t (array names t levels b) (PartAt shape.Array t)
    items-fillable b = record {
      is_closer = (inl refl, tt);
      too = λ u v i e n same is. (node-too u v i e n same is.0, is.1);
      is = λ i e n at is. item-read names t levels (inside_at-sound names t levels) i n e at is;
      begun = λ i x stop k at is.
          subst (OpenAs (IsItem levels) t i) is (all i (slice_get_within t i at.byte at.here));
      filler = codes "0";
      is_filler = inr (inl refl);
      fills = λ i e q is x within.
          let here = taken-first t x within (codes "0") 48 refl in
          (grammar.number x (x + 1), (zero-node (take x t ++ codes "0") x (x + 1) refl here, omega (arith, is.1)));
    }

    -- a member: its key, its colon and its value
    with_key-open : (i j : ℕ) (key : Key) → key.begin ≡ i → SpellsKey t key j → (x : Reading Node)
        → OpenAs (IsItem levels) t j x → OpenAs (IsMember levels) t i (with_key key x)
    with_key-open i j key begins spelled (done n e) h = tt
    with_key-open i j key begins spelled (fault k x stop) h = λ live. by (h live) where
      by : CanEndHere (IsItem levels) t j x → CanEndHere (IsMember levels) t i x
      by (le, ends) =
          let ahead = key-ahead names t key j spelled in (
            omega arith,
            close-map t x _ _
                (λ w within here.
                let u = take x t ++ w in
                let at = sym here.1.0.begins in
                let value = subst (λ b. IsNodeAt names u b here.0 (length u)) at here.1.0 in
                let too = subst (SpellsKey u key) at (key-too t u x (prefix-kept t x within w) key j le spelled) in
                ((key, here.0), record { begins = begins; key = too; value = value; limit = here.1.1 }))
                ends,
          )

    after_colon-open : (i : ℕ) (key : Key) → key.begin ≡ i → SpellsString t key.begin key.pieces key.end
        → (x : Span) → SpanIs (After t key.end 58 (PartAfter t (ByteAt t))) x
        → LiveIs (CanEndHere (IsMember levels) t i) x → OpenAs (IsMember levels) t i (after_colon key inner x)
    after_colon-open i key begins string (taken u j) h dead =
        with_key-open i j key begins (record { string = string; colon = h.0; after = h.1; blanks = h.2.blanks })
        (inner j)
        (all j (slice_get_within t j h.2.begins.byte h.2.begins.here))
    after_colon-open i key begins string (failed k j) h dead = dead

    after_key-open : (i : ℕ) → slice_get t i ≡ Some 34 → (x : Scanned Text) → string_at whole t i ≡ x
        → ScalarWithin t i x
        → LiveIs (CanEndHere (IsMember levels) t i) x
        → OpenAs (IsMember levels) t i (after_key inner t i (seen_as (key_of t i) x))
    after_key-open i quote (taken s e) is w dead =
        let string = string_at-sound t i e s quote is in
        after_colon-open i (key_of t i s e) refl string.0 (object_colon t e) (object_colon-is t e w.1)
        (object_colon-live t (CanEndHere (IsMember levels) t i) e)
    after_key-open i quote (failed k j) is w dead = dead

    members-fillable : (b : ℕ) → Fillable 125 (IsMember levels) t (object names t levels b) (PartAt shape.Object t)
    members-fillable b = record {
      is_closer = (inr refl, tt);
      too = λ u v i e m same is. member-too levels u v i e m same is;
      is = λ i e m at is. member-read names t levels (inside_at-sound names t levels) b i m e at is;
      begun = λ i x stop k at is.
          subst (OpenAs (IsMember levels) t i) is
          (after_key-open i (begins-quote t i at) (string_at whole t i) refl
          (string_at-within whole t i (slice_get_within t i at.byte at.here))
          (string-live t (CanEndHere (IsMember levels) t i) i));
      filler = codes "\"\":0";
      is_filler = inr (inr refl);
      fills = λ i e q is x within. zero-member levels t x within (omega (arith, is.limit));
    }

    -- A container whose grammar is so, from its bracket on: the parts and the closer make a value.
    container-open : {P : Type 0} {closer : ℕ} {Begins : ℕ → Type 0} {IsPart : List ℕ → ℕ → P → ℕ → Type 0}
        (Are MoreAre : List ℕ → List P → ℕ → ℕ → Type 0) (c : Container P Node)
        → ((ps : List P) (i : ℕ) → c.refuses ps i ≡ None) → Delimits t c.first c.next closer Begins
        → Sticks t c.first c.next → Goes c t → Fillable closer IsPart t c Begins
        → ((u : List ℕ) → Grammar u closer Anywhere (IsPart u) (Are u) (MoreAre u))
        → (i b : ℕ) → slice_get t i ≡ Some b
        → ((u : List ℕ) (ps : List P) → slice_get u i ≡ Some b → Are u ps (i + 1) (length u)
        → (n : Node) × IsValue levels u i n (length u))
        → OpenAs (IsValue levels) t i (container_at (nodes names) c t i)
    container-open Are MoreAre c free delimits sticks goes fillable are i b here build =
        open-map _ (CanEndHere (IsValue levels) t i)
        (λ x ends. (
          omega (arith, ends.0),
          close-map t x _ _
              (λ w within parts.
              let u = take x t ++ w in
              build u parts.0 (prefix-kept t x within w i b (omega (arith, ends.0)) here)
              (parts-are u _ Anywhere _ (Are u) (MoreAre u) (are u) parts.0 (i + 1) (length u) parts.1))
              ends.1,
        ))
        (container_at (nodes names) c t i)
        (container_at-open (nodes names) (λ k. refl) t c free _ _ _ delimits sticks goes fillable i
        (slice_get_within t i b here))

    -- scalars
    scalar-open : {X : Type 0} (i : ℕ) (seen : X → ℕ → Node) (x : Scanned X)
        → LiveIs (CanEndHere (IsValue levels) t i) x
        → OpenAs (IsValue levels) t i (scalar_at i (seen_as seen x))
    scalar-open i seen (taken a e) h = tt
    scalar-open i seen (failed k j) h = h

    number-here : (i : ℕ) → i < length t → LiveIs (CanEndHere (IsValue levels) t i) (number_at names t i)
    number-here i h =
        map-live (CanEndNumber t names i) (CanEndHere (IsValue levels) t i)
        (λ x ends. (
          ends.0,
          close-map t x _ _
              (λ w within h. (_, (number-node (take x t ++ w) i (length (take x t ++ w)) h, omega arith)))
              ends.1,
        ))
        (number_at names t i) (number-open t names i (omega arith))

    zero-here : (i : ℕ) → i ≤ length t → CanEndHere (IsValue levels) t i i
    zero-here i within =
        let w = codes "0" in
        let u = take i t ++ w in
        let long = taken-length t i within w in
        let value = zero-node u i (length u) (omega arith) (taken-first t i within w 48 refl) in (
          omega arith,
          record {
            filler = w;
            closers = [];
            is_filler = inr (inl refl);
            are_closers = tt;
            within = within;
            is = ((grammar.number i (length u)), (value, omega arith));
          },
        )

    value-here : (u : List ℕ) (n : Node) → Spells names u n → end n ≡ length u → nesting n ≤ levels
        → (m : Node) × IsValue levels u (begin n) m (length u)
    value-here u n h last d = (n, (record { spelled = h; begins = refl; ends = last; within = omega arith }, d))

    value_with-open : (i : ℕ) → i < length t → (s : Start) → start_of (slice_index t i) ≡ s
        → OpenAs (IsValue levels) t i (value_with (nodes names) inner t i s)
    value_with-open i h start.Array e =
        container-open (λ u. ItemsAre names u levels) (λ u. MoreItemsAre names u levels) (array names t levels i)
        (λ ps j. refl)
        (delimits t shape.Array) (sticks t shape.Array) (array-goes names t levels i) (items-fillable i)
        (λ u. items-grammar names u levels Anywhere (IsItem levels u) (λ j n m at is. is))
        i 91 (byte-here names t levels i 91 h (array-byte _ e))
        (λ u ps opens are. value-here u (grammar.array i (length u) (nodes_of ps)) (opens, are.0) refl are.1)
    value_with-open i h start.Object e =
        container-open (λ u. MembersAre names u levels) (λ u. MoreMembersAre names u levels) (object names t levels i)
        (λ ps j. refl)
        (delimits t shape.Object) (sticks t shape.Object) (object-goes names t levels i) (members-fillable i)
        (λ u. members-grammar names u levels Anywhere (IsMember levels u) (λ j m e at is. is))
        i 123 (byte-here names t levels i 123 h (object-byte _ e))
        (λ u ps opens are. value-here u (grammar.object i (length u) (node_members_of ps)) (opens, are.0) refl are.1)
    value_with-open i h start.String e =
        scalar-open i (λ x e. grammar.string (pieces_from t (i + 1) (chars x.bytes)) i e) (string_at whole t i)
        (string-live t (CanEndHere (IsValue levels) t i) i)
    value_with-open i h start.Number e =
        scalar-open i (λ n e. grammar.number i e) (number_at names t i) (number-here i h)
    value_with-open i h (start.Literal l) e =
        scalar-open i (λ x e. grammar.literal l i e) _ (word-live t (CanEndHere (IsValue levels) t i) (word_of l) i)
    value_with-open i h start.Nothing e = λ live. zero-here i (omega arith)

  inside_at-open : (t : List ℕ) (levels i : ℕ) → i < length t
      → OpenAs (IsItem levels) t i (inside_at (nodes names) t levels i)
  unfolding inside_at
  inside_at-open t zero i h = no_live
  inside_at-open t (suc levels) i h =
      open-map (CanEndHere (IsValue levels) t i) _
      (λ x ends. (ends.0, close-map t x _ _ (λ w within here. (here.0, (here.1.0, omega (arith, here.1.1)))) ends.1)) _
      (value_with-open t levels (inside_at-open t levels) i h (start_of (slice_index t i)) refl)

  -- Where a value's reading meets an error that can go on, the value can be ended.
  pub value_at-open : (t : List ℕ) (levels i : ℕ) → i < length t
      → OpenAs (IsValue levels) t i (value_at (nodes names) t levels i)
  value_at-open t levels i h = value_with-open t levels (inside_at-open t levels) i h (start_of (slice_index t i)) refl
