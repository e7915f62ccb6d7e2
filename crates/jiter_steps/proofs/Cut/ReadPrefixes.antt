-- The prefix of a text is read along the node that the whole text spells, by any rules: what ends before the cut is read
-- whole, and what the cut falls into is cut.
use Rattle.jiter_steps.proofs.Words.{◌≡◌, ◌⊎◌, inl, inr, ℕ, zero, suc, ◌+◌, ◌<◌, ◌≤◌, Bool, true, List, length, map}
use Rattle.jiter_steps.proofs.Words.{take, None, refl, sym, ap, ◌∙◌, subst, arith, slice_get, Some, cases_lt, Kind}
use Rattle.jiter_steps.proofs.Words.{is_end_kind, eof_object, eof_string, eof_value, taken, failed, Stands, word_of}
use Rattle.jiter_steps.proofs.Words.{start_of, Key, Node, Nodes, NodeMembers, begin, end, SpellsNumber, SpellsKey}
use Rattle.jiter_steps.proofs.Words.{Spells, nesting, Piece, SpellsString, Reading, done, fault, Rules, Container}
use Rattle.jiter_steps.proofs.Words.{scalar_at, with_key, after_key, container_at, array_of, object_of, value_with}
use Rattle.jiter_steps.proofs.Words.{inside_at, value_at, array_first, object_first, object_colon, ContainerKind}
use Rattle.jiter_steps.proofs.Words.{Literal}
use Rattle.jiter_steps.specs.Node as grammar
use Rattle.jiter_steps.specs.declared.parse.ContainerKind.TheVariants as shape
use Rattle.jiter_steps.proofs.Grammar.SpelledParts.{start_is, node-starts, begins-value, nodes_list, members_list}
use Rattle.jiter_steps.proofs.Grammar.SpelledParts.{IsItem, IsMember, items-parts, members-parts, key-ahead, node-ahead}
use Rattle.jiter_steps.proofs.Cut.CutParts.{ReadTo, CutParts, ReadsPrefix, cuts, colon-cut, value_first-cut}
use Rattle.jiter_steps.proofs.Cut.CutParts.{container-whole, parts-cut}
use Rattle.jiter_steps.proofs.Cut.DocumentPrefixes.{prefix-get, prefix-index, prefix-blank, prefix-after}
use Rattle.jiter_steps.proofs.Reading.Parts.{after-ahead, Parts}
use Rattle.jiter_steps.proofs.Grammar.RowSteps.{PartAt, delimits, object_colon-taken}
use Rattle.jiter_steps.proofs.Grammar.ScalarLaws.{EndsNumber}
use Rattle.jiter_steps.proofs.Reading.Values.{Advances, AllWithin, Goes, array_of-goes, object_of-goes}
use Rattle.jiter_steps.proofs.Reading.Values.{inside_at-within, inside_at-suc, value-starts, member-key, member-colon}
use Rattle.jiter_steps.proofs.Reading.Values.{member-value}

-- no digit or other byte of a number follows one
abbrev pub IsQuiet : List ℕ → Node → Type 0
IsQuiet t (grammar.number b e) = EndsNumber t e
IsQuiet t n = Unit {0}

pub node-quiet : (t : List ℕ) (n : Node) → EndsNumber t (end n) → IsQuiet t n
node-quiet t (grammar.number b e) q = q
node-quiet t n q = tt

module _ {K A : Type 0} (r : Rules K A) (names : Bool) (t : List ℕ) (k : ℕ) (within : k ≤ length t)
    (see_key : Key → K) (see : Node → A) (IsCut : Node → Reading A → Type 0) where
  abbrev u : List ℕ
  u = take k t

  -- a node is read as it is seen, if it ends by k; or it is cut
  abbrev pub Reads : Node → Reading A → Type 0
  Reads n x = ReadTo t k within see IsCut n (end n) x

  abbrev pub see_member : Key × Node → K × A
  see_member m = (see_key m.0, see m.1)

  -- a member that is cut before its value: the input ends, and the reading is there or at the key's quote
  pub record IsCutBefore (m : Key × Node) (x : Reading (K × A)) : Type 0 where
    pub kind : Kind
    pub stop : ℕ
    pub is : x ≡ fault kind k stop
    pub early : is_end_kind kind ≡ true
    pub unread : k ≤ begin m.1
    pub stands : (stop ≡ k) ⊎ (slice_get u stop ≡ Some 34)

  -- a member that is cut, before its value or in it
  abbrev pub IsCutMember : Key × Node → Reading (K × A) → Type 0
  IsCutMember m x = IsCutBefore m x ⊎ ((y : Reading A) × (x ≡ with_key (see_key m.0) y) × IsCut m.1 y)

  -- What the rules make, in the prefix, of scalars, keys and containers.
  pub record CutRules : Type 0 where
    pub literal : (l : Literal) (b e : ℕ) → Stands t b e (word_of l) → b < k
        → Reads (grammar.literal l b e) (scalar_at b (r.literal u l b))
    pub number : (b e : ℕ) → SpellsNumber names t b e → EndsNumber t e → b < k
        → Reads (grammar.number b e) (scalar_at b (r.number u b))
    pub text : (ps : List Piece) (b e : ℕ) → SpellsString t b ps e → b < k
        → Reads (grammar.string ps b e) (scalar_at b (r.text u b))
    pub key : (key : Key) → SpellsString t key.begin key.pieces key.end → key.end ≤ k
        → r.key u key.begin ≡ taken (see_key key) key.end
    pub key-cut : (key : Key) → SpellsString t key.begin key.pieces key.end → key.begin < k → k < key.end
        → r.key u key.begin ≡ failed eof_string k
    pub free : (members : List (K × A)) (i : ℕ) → r.refuses members u i ≡ None
    pub array : (b e : ℕ) (ns : Nodes) → r.array b e (map see (nodes_list ns)) ≡ see (grammar.array b e ns)
    pub object : (b e : ℕ) (ms : NodeMembers)
        → r.object b e (map see_member (members_list ms)) ≡ see (grammar.object b e ms)
    pub array-cut : (inner : ℕ → Reading A) (b e : ℕ) (ns : Nodes) → Spells names t (grammar.array b e ns) → b < k
        → Goes (array_of r inner u b) u
        → CutParts t k within (array_of r inner u b) (λ n. n) see IsCut array_first (b + 1) (nodes_list ns)
        → IsCut (grammar.array b e ns) (container_at r (array_of r inner u b) u b)
    pub object-cut : (inner : ℕ → Reading A) (b e : ℕ) (ms : NodeMembers) → Spells names t (grammar.object b e ms)
        → b < k
        → Goes (object_of r inner u b) u
        → CutParts t k within (object_of r inner u b) (λ m. m.1) see_member IsCutMember object_first (b + 1)
        (members_list ms)
        → IsCut (grammar.object b e ms) (container_at r (object_of r inner u b) u b)

  module _ (good : Advances r u) (rules : CutRules) where
    module _ (levels : ℕ) where
      abbrev inner : ℕ → Reading A
      inner i = inside_at r u levels i

      inner-within : AllWithin u inner
      inner-within = inside_at-within r u good levels

      abbrev array : ℕ → Container A A
      array b = array_of r inner u b

      abbrev object : ℕ → Container (K × A) A
      object b = object_of r inner u b

      -- the values inside are read so
      abbrev InnerReads : Type 0
      InnerReads =
          (n : Node) → Spells names t n → nesting n < levels → IsQuiet t n → begin n < k
          → Reads n (inner (begin n))

      -- where a part begins
      part-prefix : (b : ContainerKind) (j : ℕ) → j < k → PartAt b t j → PartAt b u j
      part-prefix b j lt h =
          let here = prefix-get t k within j h.byte lt h.here in
          record { byte = h.byte; here = here; no_blank = h.no_blank; begins = h.begins }

      -- items
      item-ahead : (j : ℕ) (n : Node) (e : ℕ) → IsItem names t levels j n e → j < e
      item-ahead j n e is = omega (arith, node-ahead names t n is.spelled, is.begins, is.ends)

      item-reads : InnerReads → (j : ℕ) (n : Node) (e : ℕ) → IsItem names t levels j n e → j < k
          → ReadTo t k within see IsCut n e (inner j)
      item-reads all j n e is lt =
          let quiet = node-quiet t n (subst (EndsNumber t) (sym is.ends) is.quiet) in
          let read = all n is.spelled is.limit quiet (omega (arith, is.begins)) in
          subst (λ f. ReadTo t k within see IsCut n f (inner j)) is.ends (subst (λ i. Reads n (inner i)) is.begins read)

      items-prefix : InnerReads → (b : ℕ)
          → ReadsPrefix t k within (array b) (λ n. n) see IsCut 93 (PartAt shape.Array) (IsItem names t levels)
      items-prefix all b = record {
        delimits = delimits u shape.Array;
        ends = cuts t k within shape.Array;
        begins = part-prefix shape.Array;
        value-begins = λ j n e is. omega (arith, is.begins);
        value-ends = λ j n e is. is.ends;
        ahead = item-ahead;
        reads = item-reads all;
      }

      -- members
      abbrev MemberAt : ℕ → Reading (K × A)
      MemberAt i = after_key inner u i (r.key u i)

      -- after a key that ends before the cut
      colon-read : (key : Key) (n : Node) → SpellsKey t key (begin n) → Spells names t n → begin n < k
          → object_colon u key.end ≡ taken tt (begin n)
      colon-read key n h s lt =
          let first = begins-value names t n s in
          let after = prefix-after t k within key.end 58 h.colon h.after (omega (arith, h.blanks.ordered)) in
          let here = prefix-get t k within (begin n) first.byte lt first.here in
          let blanks = prefix-blank t k within h.colon (begin n) h.blanks (omega arith) in
          object_colon-taken u key.end h.colon (begin n) after blanks
          (record { byte = first.byte; here = here; no_blank = first.no_blank })

      member-ahead : (j : ℕ) (m : Key × Node) (e : ℕ) → IsMember names t levels j m e → j < e
      member-ahead j m e is =
          omega (arith, is.begins, key-ahead names t m.0 (begin m.1) is.key, item-ahead (begin m.1) m.1 e is.value)

      -- a member whose value begins before the cut
      value-read : (m : Key × Node) → SpellsKey t m.0 (begin m.1) → Spells names t m.1 → begin m.1 < k
          → MemberAt m.0.begin ≡ with_key (see_key m.0) (inner (begin m.1))
      value-read m h s lt =
          let order = after-ahead t m.0.end 58 h.colon h.after in
          let key = rules.key m.0 h.string (omega (arith, h.blanks.ordered)) in
          let colon = colon-read m.0 m.1 h s lt in
          member-value r u inner m.0.begin m.0.end (begin m.1) (see_key m.0) (inner (begin m.1)) key colon refl

      -- between its key and its value
      colon-short : (m : Key × Node) → SpellsKey t m.0 (begin m.1) → m.0.end ≤ k → k ≤ begin m.1
          → IsCutMember m (MemberAt m.0.begin)
      colon-short m h le ge = by (cases_lt k h.colon) where
        stops : (kind : Kind) → is_end_kind kind ≡ true → object_colon u m.0.end ≡ failed kind k
            → IsCutMember m (MemberAt m.0.begin)
        stops kind early is =
            inl (record {
              kind = kind;
              stop = k;
              is = member-colon r u inner m.0.begin m.0.end k (see_key m.0) kind (rules.key m.0 h.string le) is;
              early = early;
              unread = ge;
              stands = inl refl;
            })

        by : (k < h.colon) ⊎ (h.colon ≤ k) → IsCutMember m (MemberAt m.0.begin)
        by (inl gt) = stops eof_object refl (colon-cut t k within m.0.end h.colon h.after le gt)
        by (inr at) =
            stops eof_value refl (value_first-cut t k within m.0.end h.colon (begin m.1) h.after at h.blanks ge)

      member-reads : InnerReads → (j : ℕ) (m : Key × Node) (e : ℕ) → IsMember names t levels j m e → j < k
          → ReadTo t k within see_member IsCutMember m e (MemberAt j)
      member-reads all j m e is lt =
          rw (← is.begins) (whole, λ gt. by gt (cases_lt k m.0.end) (cases_lt (begin m.1) k)) where
            value : begin m.1 < k → ReadTo t k within see IsCut m.1 e (inner (begin m.1))
            value begun = item-reads all (begin m.1) m.1 e is.value begun

            whole : e ≤ k → MemberAt m.0.begin ≡ done (see_member m) e
            whole le =
                let begun : begin m.1 < k = omega (arith, item-ahead (begin m.1) m.1 e is.value) in
                value-read m is.key is.value.spelled begun ∙ ap (with_key (see_key m.0)) ((value begun).0 le)

            by : k < e → (k < m.0.end) ⊎ (m.0.end ≤ k) → (begin m.1 < k) ⊎ (k ≤ begin m.1)
                → IsCutMember m (MemberAt m.0.begin)
            by gt (inl past) place =
                let begun : m.0.begin < k = omega (arith, is.begins) in
                let after = after-ahead t m.0.end 58 is.key.colon is.key.after in
                inl (record {
                  kind = eof_string;
                  stop = m.0.begin;
                  is = member-key r u inner m.0.begin k eof_string (rules.key-cut m.0 is.key.string begun past);
                  early = refl;
                  unread = omega (arith, is.key.blanks.ordered);
                  stands = inr (prefix-get t k within m.0.begin 34 begun is.key.string.opens);
                })
            by gt (inr le) (inr ge) = colon-short m is.key le ge
            by gt (inr le) (inl begun) =
                inr (inner (begin m.1), value-read m is.key is.value.spelled begun, (value begun).1 gt)

      members-prefix : InnerReads → (b : ℕ)
          → ReadsPrefix t k within (object b) (λ m. m.1) see_member IsCutMember 125 (PartAt shape.Object)
          (IsMember names t levels)
      members-prefix all b = record {
        delimits = delimits u shape.Object;
        ends = cuts t k within shape.Object;
        begins = part-prefix shape.Object;
        value-begins = λ j m e is. omega (arith, is.begins, key-ahead names t m.0 (begin m.1) is.key);
        value-ends = λ j m e is. is.value.ends;
        ahead = member-ahead;
        reads = member-reads all;
      }

      -- a container of these parts
      container-reads : {P Q : Type 0} (c : Container Q A) (value : P → Node) (seen : P → Q)
          (Cut : P → Reading Q → Type 0) {closer : ℕ} {Begins : List ℕ → ℕ → Type 0} {IsPart : ℕ → P → ℕ → Type 0}
          → ReadsPrefix t k within c value seen Cut closer Begins IsPart
          → ((qs : List Q) (i : ℕ) → c.refuses qs i ≡ None) → Goes c u
          → (n : Node) (ps : List P) → Parts t closer (Begins t) IsPart ps (begin n + 1) (end n) → begin n < k
          → c.build (end n) (map seen ps) ≡ see n
          → (CutParts t k within c value seen Cut c.first (begin n + 1) ps → IsCut n (container_at r c u (begin n)))
          → Reads n (container_at r c u (begin n))
      container-reads c value seen Cut reads free goes n ps parts lt build cut = (
        λ le.
            container-whole t k within c value seen Cut reads r free goes ps (begin n) (end n) parts le
            ∙ ap (λ a. done a (end n)) build,
        λ gt.
            cut (parts-cut t k within c value seen Cut reads ps (begin n + 1) (end n) parts (omega arith) gt),
      )

      -- a value, by what it begins with
      value-reads : InnerReads → (n : Node) → Spells names t n → nesting n ≤ levels → IsQuiet t n → begin n < k
          → Reads n (value_with r inner u (begin n) (start_is n))
      value-reads all (grammar.literal l b e) h d q lt = rules.literal l b e h lt
      value-reads all (grammar.number b e) h d q lt = rules.number b e h q lt
      value-reads all (grammar.string ps b e) h d q lt = rules.text ps b e h lt
      value-reads all (grammar.array b e ns) h d q lt =
          let goes = array_of-goes r u good inner inner-within b in
          container-reads (array b) (λ n. n) see IsCut (items-prefix all b) (λ qs j. refl) goes _ (nodes_list ns)
          (items-parts names t levels ns (b + 1) e h.1 d) lt (rules.array b e ns)
          (rules.array-cut inner b e ns h lt goes)
      value-reads all (grammar.object b e ms) h d q lt =
          let goes = object_of-goes r u good inner inner-within b in
          container-reads (object b) (λ m. m.1) see_member IsCutMember (members-prefix all b) (λ qs j. rules.free qs j)
          goes _ (members_list ms) (members-parts names t levels ms (b + 1) e h.1 d) lt (rules.object b e ms)
          (rules.object-cut inner b e ms h lt goes)

      begun-reads : InnerReads → (n : Node) → Spells names t n → nesting n ≤ levels → IsQuiet t n → begin n < k
          → Reads n (value_at r u levels (begin n))
      begun-reads all n h d q lt =
          let starts = ap start_of (prefix-index t k within (begin n) lt) ∙ node-starts names t n h in
          subst (Reads n) (sym (value-starts r u levels (begin n) (start_is n) starts)) (value-reads all n h d q lt)

    inner-reads : (levels : ℕ) → InnerReads levels
    inner-reads zero n h d q lt = absurd (omega arith)
    inner-reads (suc levels) n h d q lt =
        rw (inside_at-suc r u levels (begin n)) (begun-reads levels (inner-reads levels) n h (omega arith) q lt)

    -- A value that begins before the cut.
    pub value_at-prefix : (n : Node) (levels : ℕ) → Spells names t n → nesting n ≤ levels → IsQuiet t n → begin n < k
        → Reads n (value_at r u levels (begin n))
    value_at-prefix n levels h d q lt = begun-reads levels (inner-reads levels) n h d q lt
