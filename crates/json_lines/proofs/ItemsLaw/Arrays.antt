-- Parts that are documents on their own are the items of an array.
use Rattle.std.proofs.Common.{◌≡◌, ◌⊎◌, inl, inr, ℕ, zero, suc, ◌+◌, ◌<◌, ◌≤◌, ◌==◌, Bool, true, false, List, [], ◌∷◌, ◌++◌, length}
use Rattle.std.proofs.Common.{append-nil, drop, length-drop, length-take, refl, sym, ap, ap₂, ◌∙◌, subst, arith, take}
use Rattle.std.specs.Prelude.{codes, if◌then◌else◌, slice_get, slice_index, Some}
use Rattle.std.proofs.lemmas.Bool.{cases_lt, eqb-true}
use Rattle.std.proofs.lemmas.Bool.Decides.{nat_tests}
use Rattle.std.proofs.lemmas.List.Sums.{prefix_len-le-length}
use Rattle.std.proofs.lemmas.Option.{slice_get_within}
use Rattle.jiter_scan.specs.Stands.{Stands}
use Rattle.jiter_scan.proofs.Standing.{stands-length, stands-split}
use Rattle.jiter_steps.specs.Blank.{IsBlank, IsBlankByte}
use Rattle.jiter_steps.specs.Node.{IsDocument, Node, Nodes, no_nodes, node, begin, end, Spells, SpellsItems, SpellsMoreItems, StandsAfter}
use Rattle.jiter_steps.specs.Node.{nesting, nesting_limit, nesting_of, value_of, values_of}
use Rattle.jiter_steps.specs.Tree.{Items, Tree}
use Rattle.jiter_steps.specs.Tree as tree
use Rattle.json_lines.specs.Items.{Part, Pieces, Place, after_array, after_blanks, after_backslash, blanks, bracket, comma, cut, ends_item, in_string, is_white}
use Rattle.json_lines.specs.Items.{item, item_or, last_of, outside, parts, parts_at, parts_of, pieces, place_after, trim_end, with_byte, wrong}
use Rattle.json_lines.specs.Line.{cause_in}
use Rattle.json_lines.specs.ItemsLaw.{AreDocuments, IsArrayOf}
use Rattle.json_lines.proofs.ItemsLaw.Alone.{stands-get}
use Rattle.json_lines.proofs.ItemsLaw.Moved.{IsMoved, begin-moved, blanks-moved, end-moved, moved, nesting-moved, node-moves, stands-blank}
use Rattle.json_lines.proofs.ItemsLaw.Trimmed.{all-white, white-back, white-front}

-- ---- where bytes are cut
abbrev IsCut : List ℕ → Pieces → Type 0
IsCut r (comma w more) = (others : List ℕ) × (r ≡ w ++ (44 ∷ others)) × (more ≡ pieces (outside 0) others)
IsCut r (bracket w rest) = r ≡ w ++ (93 ∷ rest)
IsCut r (cut w) = Unit {0}

one-more : (b : ℕ) (r : List ℕ) (x : Pieces) → IsCut r x → IsCut (b ∷ r) (with_byte b x)
one-more b r (comma w more) h = (h.0, ap (λ l. b ∷ l) h.1, h.2)
one-more b r (bracket w rest) h = ap (λ l. b ∷ l) h
one-more b r (cut w) h = tt

bracket-byte : (p : Place) (b : ℕ) → ends_item p b ≡ true → (b == 44) ≡ false → b ≡ 93
bracket-byte (outside d) b h other = grind (arith, nat_tests, h, other)
bracket-byte (in_string d) b h other = absurd (cc)
bracket-byte (after_backslash d) b h other = absurd (cc)

cut-is : (r : List ℕ) (p : Place) → IsCut r (pieces p r)
cut-is [] p = tt
cut-is (b ∷ r) p = by (ends_item p b) refl (cut-is r (place_after p b)) where
  ended : (c : Bool) → (b == 44) ≡ c → ends_item p b ≡ true
      → IsCut (b ∷ r) (if c then comma [] (pieces (outside 0) r) else bracket [] r)
  ended true e h = (r, ap (λ x. x ∷ r) (eqb-true b 44 e), refl)
  ended false e h = ap (λ x. x ∷ r) (bracket-byte p b h e)

  by : (c : Bool) → ends_item p b ≡ c → IsCut r (pieces (place_after p b) r) → IsCut (b ∷ r)
      (if c then (if b == 44 then comma [] (pieces (outside 0) r) else bracket [] r) else with_byte b (pieces (place_after p b) r))
  by true e more = ended (b == 44) refl e
  by false e more = one-more b r (pieces (place_after p b) r) more

-- ---- what is left of a text begins with these bytes
next-is : (t : List ℕ) (i c : ℕ) (l : List ℕ) → drop i t ≡ c ∷ l → (slice_get t i ≡ Some c) × (drop (suc i) t ≡ l)
next-is [] zero c l e = absurd (cc)
next-is [] (suc i) c l e = absurd (cc)
next-is (x ∷ t) zero c l e = let head : x ≡ c = cc in let tail : t ≡ l = cc in (ap Some head, tail)
next-is (x ∷ t) (suc i) c l e = next-is t i c l e

left-stands : (t : List ℕ) (w : List ℕ) (i : ℕ) (l : List ℕ) → drop i t ≡ w ++ l
    → Stands t i (i + length w) w × (drop (i + length w) t ≡ l)
left-stands t [] i l e = let same : i + 0 ≡ i = omega arith in (sym same, ap (λ k. drop k t) same ∙ e)
left-stands t (c ∷ w) i l e =
    let here = next-is t i c (w ++ l) e in
    let one : suc i ≡ i + 1 = omega arith in
    let more = left-stands t w (i + 1) l (ap (λ k. drop k t) (sym one) ∙ here.1) in
    let place : i + 1 + length w ≡ i + length (c ∷ w) = omega arith in (
      (here.0, subst (λ k. Stands t (i + 1) k w) place more.0),
      ap (λ k. drop k t) (sym place) ∙ more.1,
    )

blanks-join : (t : List ℕ) (i j k : ℕ) → IsBlank t i j → IsBlank t j k → IsBlank t i k
blanks-join t i j k a b = record {
  ordered = omega (arith, a.ordered, b.ordered);
  within = b.within;
  each = λ m l u. by m l u (cases_lt m j);
} where
  by : (m : ℕ) → i ≤ m → m < k → (m < j) ⊎ (j ≤ m) → IsBlankByte (slice_index t m)
  by m l u (inl lt) = a.each m l lt
  by m l u (inr le) = b.each m le u

-- ---- one item
module _ (names : Bool) (t : List ℕ) where
  -- from i to before k there is this value, with whitespace around it
  record ItemIn (i k : ℕ) (value : Tree) : Type 0 where
    found : Node
    before : IsBlank t i (begin found)
    spelled : Spells names t found
    after : IsBlank t (end found) k
    limit : nesting found ≤ nesting_limit
    is : value_of t found ≡ value

  module _ (src : List ℕ) (o p : ℕ) (stands : Stands t o p src) (inside : p ≤ length t) where
    moved-on : IsMoved src t 0 (length src) (λ i. o + i)
    moved-on =
        let long = stands-length t o p src stands in
        record {
          same = λ i c l lt here. stands-get t src o p i stands lt ∙ here;
          next = λ i l lt. omega arith;
          within = λ i l le. omega arith;
        }

    -- a document that is there
    module _ (i k : ℕ) (before : IsBlank t i o) (after : IsBlank t p k) (m : Node) (h : IsDocument names src m) where
      document-in : ItemIn i k (value_of src m)
      document-in =
          let f : ℕ → ℕ = λ i. o + i in
          let long = stands-length t o p src stands in
          let x = node-moves src t 0 (length src) f moved-on names m (omega arith) h.after.ordered h.spelled in
          let front = blanks-moved src t 0 (length src) f moved-on 0 (begin m) (omega arith) h.before.within h.before in
          let back = blanks-moved src t 0 (length src) f moved-on (end m) (length src) (omega arith) (omega arith) h.after in
          let first : o + 0 ≡ o = omega arith in
          let last : o + length src ≡ p = omega arith in
          record {
            found = moved f m;
            before = subst (IsBlank t i) (sym (begin-moved f m))
                (blanks-join t i o (o + begin m) before (subst (λ j. IsBlank t j (o + begin m)) first front));
            spelled = x.0;
            after = subst (λ j. IsBlank t j k) (sym (end-moved f m))
                (blanks-join t (o + end m) p k (subst (IsBlank t (o + end m)) last back) after);
            limit = omega (arith, nesting-moved f m, h.limit);
            is = x.1;
          }

  item-in : (w : List ℕ) (i k b : ℕ) (bs : List ℕ) → Stands t i k w → k ≤ length t → after_blanks w ≡ b ∷ bs
      → (m : Node) → IsDocument names (trim_end (b ∷ bs)) m → ItemIn i k (value_of (trim_end (b ∷ bs)) m)
  item-in w i k b bs stands inside left m h =
      let ws = take (blanks w) w in
      let src = trim_end (b ∷ bs) in
      let front = white-front w in
      let back = white-back (b ∷ bs) in
      let is : w ≡ ws ++ (src ++ back.0) = front.0 ∙ ap (λ x. ws ++ x) (left ∙ back.1) in
      let all = subst (Stands t i k) is stands in
      let one = stands-split t i k ws (src ++ back.0) all in
      let two = stands-split t one.0 k src back.0 one.2 in
      let a = stands-length t i one.0 ws one.1 in
      let b = stands-length t one.0 two.0 src two.1 in
      let c = stands-length t two.0 k back.0 two.2 in
      document-in src one.0 two.0 two.1 (omega arith) i k
      (stands-blank t ws i one.0 (omega arith) one.1 front.1) (stands-blank t back.0 two.0 k inside two.2 back.2) m h

  -- ---- the items from an index on
  record ItemsFrom (i : ℕ) (values : Items) : Type 0 where
    first : Node
    others : Nodes
    close : ℕ
    before : IsBlank t i (begin first)
    spelled : Spells names t first
    more : SpellsMoreItems names t (end first) others close
    after : IsBlank t close (length t)
    limit : nesting_of (node first others) ≤ nesting_limit
    are : values_of t (node first others) ≡ values

  -- whitespace to the end
  rest-blank : (e : ℕ) (rest : List ℕ) → e ≤ length t → drop e t ≡ rest → after_blanks rest ≡ [] → IsBlank t e (length t)
  rest-blank e rest within is none =
      let long : e + length rest ≡ length t = omega (arith, ap length is, length-drop e t) in
      let stands = left-stands t rest e [] (is ∙ sym (append-nil rest)) in
      stands-blank t rest e (length t) (omega arith) (subst (λ k. Stands t e k rest) long stands.0) (all-white rest none)

  module _ (i : ℕ) (w : List ℕ) where
    -- the piece's end
    abbrev stop : ℕ
    stop = i + length w

    module _ (c : ℕ) (others : List ℕ) (is : drop i t ≡ w ++ (c ∷ others)) where
      piece-stands : Stands t i stop w
      piece-stands = (left-stands t w i (c ∷ others) is).0

      stop-byte : slice_get t stop ≡ Some c
      stop-byte = (next-is t stop c others (left-stands t w i (c ∷ others) is).1).0

      others-left : drop (stop + 1) t ≡ others
      others-left =
          let one : stop + 1 ≡ suc stop = omega arith in
          ap (λ k. drop k t) one ∙ (next-is t stop c others (left-stands t w i (c ∷ others) is).1).1

      piece-item : (b : ℕ) (bs : List ℕ) → after_blanks w ≡ b ∷ bs → (v : Tree)
          → ((n : Node) × IsDocument names (trim_end (b ∷ bs)) n × (value_of (trim_end (b ∷ bs)) n ≡ v)) → ItemIn i stop v
      piece-item b bs left v d =
          let within = slice_get_within t stop c stop-byte in
          subst (ItemIn i stop) d.2 (item-in w i stop b bs piece-stands (omega arith) left d.0 d.1)

      stands-after : (j : ℕ) → IsBlank t j stop → StandsAfter t j c (stop + 1)
      stands-after j h = record { at = stop; blanks = h; here = stop-byte; ends = refl }

    -- the last one
    last-found : (rest : List ℕ) → drop i t ≡ w ++ (93 ∷ rest) → (b : ℕ) (bs : List ℕ) → after_blanks w ≡ b ∷ bs
        → (j k : ℕ) (values : Items) → AreDocuments names (item j (trim_end (b ∷ bs)) ∷ after_array k (after_blanks rest)) values
        → ItemsFrom i values
    last-found rest is b bs left j k tree.no_items docs = absurd docs
    last-found rest is b bs left j k (tree.item v vs) docs = by (after_blanks rest) refl vs docs.1 where
      by : (x : List ℕ) → after_blanks rest ≡ x → (vs : Items) → AreDocuments names (after_array k x) vs
          → ItemsFrom i (tree.item v vs)
      by [] none tree.no_items d =
          let x = piece-item 93 rest is b bs left v docs.0 in
          let within = slice_get_within t stop 93 (stop-byte 93 rest is) in
          record {
            first = x.found;
            others = no_nodes;
            close = stop + 1;
            before = x.before;
            spelled = x.spelled;
            more = stands-after 93 rest is (end x.found) x.after;
            after = rest-blank (stop + 1) rest (omega arith) (others-left 93 rest is) none;
            limit = omega (arith, x.limit);
            are = ap (λ y. tree.item y tree.no_items) x.is;
          }
      by [] none (tree.item u us) d = absurd d
      by (y ∷ ys) e vs d = absurd d

    -- one before a comma
    comma-found : (others : List ℕ) → drop i t ≡ w ++ (44 ∷ others) → (j k : ℕ) (cause : List ℕ) (ps : List Part)
        → ((values : Items) → AreDocuments names ps values → ItemsFrom (stop + 1) values)
        → (values : Items) → AreDocuments names (item_or j (after_blanks w) cause k ∷ ps) values → ItemsFrom i values
    comma-found others is j k cause ps more values docs = by (after_blanks w) refl values docs where
      by : (x : List ℕ) → after_blanks w ≡ x → (values : Items) → AreDocuments names (item_or j x cause k ∷ ps) values
          → ItemsFrom i values
      by [] e values d = absurd d
      by (b ∷ bs) left tree.no_items d = absurd d
      by (b ∷ bs) left (tree.item v vs) d =
          let x = piece-item 44 others is b bs left v d.0 in
          let y = more vs d.1 in
          record {
            first = x.found;
            others = node y.first y.others;
            close = y.close;
            before = x.before;
            spelled = x.spelled;
            more = (stop + 1, stands-after 44 others is (end x.found) x.after, y.before, y.spelled, y.more);
            after = y.after;
            limit = omega (arith, x.limit, y.limit);
            are = ap₂ tree.item x.is y.are;
          }

  next-cut : (i : ℕ) (w others : List ℕ) (more : Pieces) → drop i t ≡ w ++ (44 ∷ others) → more ≡ pieces (outside 0) others
      → IsCut (drop (i + length w + 1) t) more
  next-cut i w others more is same =
      subst (λ r. IsCut r more) (sym (others-left i w 44 others is))
      (subst (IsCut others) (sym same) (cut-is others (outside 0)))

  items-found : (x : Pieces) (i : ℕ) (values : Items) → IsCut (drop i t) x → AreDocuments names (parts_of i false x) values
      → ItemsFrom i values
  items-found (comma w more) i values h docs =
      comma-found i w h.0 h.1 (i + blanks w) (i + length w) (codes "expected value") (parts_of (i + length w + 1) false more)
      (λ vs d. items-found more (i + length w + 1) vs (next-cut i w h.0 more h.1 h.2) d) values docs
  items-found (bracket w rest) i values h docs = by (after_blanks w) refl docs where
    by : (x : List ℕ) → after_blanks w ≡ x
        → AreDocuments names (last_of false (i + blanks w) x (i + length w)
        ++ after_array (i + length w + 1 + blanks rest) (after_blanks rest)) values → ItemsFrom i values
    by [] e d = absurd d
    by (b ∷ bs) e d = last-found i w rest h b bs e (i + blanks w) (i + length w + 1 + blanks rest) values d
  items-found (cut w) i values h docs = absurd docs

  -- ---- the array
  record ItemsIn (i : ℕ) (values : Items) : Type 0 where
    nodes : Nodes
    close : ℕ
    spelled : SpellsItems names t i nodes close
    after : IsBlank t close (length t)
    limit : nesting_of nodes ≤ nesting_limit
    are : values_of t nodes ≡ values

  some-items : (i : ℕ) (values : Items) → ItemsFrom i values → ItemsIn i values
  some-items i values x = record {
    nodes = node x.first x.others;
    close = x.close;
    spelled = (x.before, x.spelled, x.more);
    after = x.after;
    limit = x.limit;
    are = x.are;
  }

  -- an empty one
  no-items : (i j : ℕ) (w rest : List ℕ) (values : Items) → drop i t ≡ w ++ (93 ∷ rest) → after_blanks w ≡ []
      → AreDocuments names (after_array j (after_blanks rest)) values → ItemsIn i values
  no-items i j w rest values is none docs = by (after_blanks rest) refl values docs where
    by : (x : List ℕ) → after_blanks rest ≡ x → (values : Items) → AreDocuments names (after_array j x) values
        → ItemsIn i values
    by [] e tree.no_items d =
        let stands = piece-stands i w 93 rest is in
        let within = slice_get_within t (i + length w) 93 (stop-byte i w 93 rest is) in
        record {
          nodes = no_nodes;
          close = i + length w + 1;
          spelled = stands-after i w 93 rest is i
              (stands-blank t w i (i + length w) (omega arith) stands (all-white w none));
          after = rest-blank (i + length w + 1) rest (omega arith) (others-left i w 93 rest is) e;
          limit = omega arith;
          are = refl;
        }
    by [] e (tree.item v vs) d = absurd d
    by (y ∷ ys) e values d = absurd d

  items-in : (x : Pieces) (i : ℕ) (values : Items) → IsCut (drop i t) x → AreDocuments names (parts_of i true x) values
      → ItemsIn i values
  items-in (comma w more) i values h docs =
      some-items i values
      (comma-found i w h.0 h.1 (i + blanks w) (i + length w) (codes "expected value") (parts_of (i + length w + 1) false more)
      (λ vs d. items-found more (i + length w + 1) vs (next-cut i w h.0 more h.1 h.2) d) values docs)
  items-in (bracket w rest) i values h docs = by (after_blanks w) refl docs where
    by : (x : List ℕ) → after_blanks w ≡ x
        → AreDocuments names (last_of true (i + blanks w) x (i + length w)
        ++ after_array (i + length w + 1 + blanks rest) (after_blanks rest)) values → ItemsIn i values
    by [] e d = no-items i (i + length w + 1 + blanks rest) w rest values h e d
    by (b ∷ bs) e d =
        some-items i values (last-found i w rest h b bs e (i + blanks w) (i + length w + 1 + blanks rest) values d)
  items-in (cut w) i values h docs = absurd docs

  module _ (bs : List ℕ) (is : after_blanks t ≡ 91 ∷ bs) where
    whole : drop 0 t ≡ take (blanks t) t ++ (91 ∷ bs)
    whole = let x = white-front t in x.0 ∙ ap (λ y. take (blanks t) t ++ y) is

    front-long : 0 + length (take (blanks t) t) ≡ blanks t
    front-long = omega (arith, length-take (blanks t) t, prefix_len-le-length is_white t)

    begun : (values : Items) → AreDocuments names (parts_of (blanks t + 1) true (pieces (outside 0) bs)) values
        → IsArrayOf names t values
    begun values docs =
        let ws = take (blanks t) t in
        let here = subst (λ k. slice_get t k ≡ Some 91) front-long (stop-byte 0 ws 91 bs whole) in
        let within = slice_get_within t (blanks t) 91 here in
        let stands = subst (λ k. Stands t 0 k ws) front-long (piece-stands 0 ws 91 bs whole) in
        let left : drop (blanks t + 1) t ≡ bs =
        ap (λ k. drop (k + 1) t) (sym front-long) ∙ others-left 0 ws 91 bs whole in
        let x = items-in (pieces (outside 0) bs) (blanks t + 1) values
        (subst (λ r. IsCut r (pieces (outside 0) bs)) (sym left) (cut-is bs (outside 0))) docs in
        record {
          begin = blanks t;
          end = x.close;
          nodes = x.nodes;
          before = stands-blank t ws 0 (blanks t) (omega arith) stands (white-front t).1;
          spelled = (here, x.spelled);
          after = x.after;
          limit = x.limit;
          are = x.are;
        }

  pub only-arrays : (values : Items) → AreDocuments names (parts t) values → IsArrayOf names t values
  only-arrays values docs = by (after_blanks t) refl docs where
    bracketed : (b : ℕ) (bs : List ℕ) → after_blanks t ≡ b ∷ bs → (c : Bool) → (b == 91) ≡ c
        → AreDocuments names (if c then parts_of (blanks t + 1) true (pieces (outside 0) bs)
        else wrong (blanks t) (cause_in (b ∷ bs) (codes "not an array")) [] ∷ []) values
        → IsArrayOf names t values
    bracketed b bs e true is d = begun bs (e ∙ ap (λ x. x ∷ bs) (eqb-true b 91 is)) values d
    bracketed b bs e false is d = absurd d

    by : (x : List ℕ) → after_blanks t ≡ x → AreDocuments names (parts_at (blanks t) x) values → IsArrayOf names t values
    by [] e d = absurd d
    by (b ∷ bs) e d = bracketed b bs e (b == 91) refl d
