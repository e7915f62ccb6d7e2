-- A container in a prefix of the text: its parts before the cut are read, and then the input ends, between two parts or
-- in one.
use Rattle.jiter_steps.proofs.Words.{◌≡◌, ◌⊎◌, inl, inr, ℕ, ◌+◌, ◌<◌, ◌≤◌, true, List, [], ◌∷◌, ◌++◌, length, map, take}
use Rattle.jiter_steps.proofs.Words.{None, refl, sym, ap, ◌∙◌, arith, append-nil, append_assoc, Option, cases_lt, Kind}
use Rattle.jiter_steps.proofs.Words.{is_end_kind, eof_object, eof_value, failed, span_then, if-false, IsBlank, Node}
use Rattle.jiter_steps.proofs.Words.{begin, end, StandsAfter, Reading, done, Rules, Container, follow, parts_at}
use Rattle.jiter_steps.proofs.Words.{container_at, Step, more, closed, stuck, step, end_kind_of, container_first}
use Rattle.jiter_steps.proofs.Words.{container_comma, container_step, colon, value_first, object_colon, ContainerKind}
use Rattle.jiter_steps.proofs.Reading.BothShapes.{end_kind-early, closer-no_comma}
use Rattle.jiter_steps.proofs.Cut.DocumentPrefixes.{prefix-length, prefix-blank, prefix-after, row-cut}
use Rattle.jiter_steps.proofs.Reading.Parts.{after-ahead, PartThen, MoreParts, Parts}
use Rattle.jiter_steps.proofs.Grammar.RowSteps.{Delimits, row-at}
use Rattle.jiter_steps.proofs.Reading.Values.{Goes, parts-part}

module _ (t : List ℕ) (k : ℕ) (within : k ≤ length t) where
  abbrev u : List ℕ
  u = take k t

  -- the input ends at k
  abbrev pub EndsInput : Step → Type 0
  EndsInput s = (kind : Kind) × (s ≡ stuck kind k) × (is_end_kind kind ≡ true)

  -- Where the prefix ends in the whitespace before a part, a comma or a closer, the input ends.
  pub record Cuts (first next : ℕ → Option ℕ → Step) : Type 0 where
    pub first-cut : (i j : ℕ) → IsBlank t i j → i ≤ k → k ≤ j → EndsInput (step u first i)
    pub next-cut : (i j : ℕ) → IsBlank t i j → i ≤ k → k ≤ j → EndsInput (step u next i)
    pub comma-cut : (i m j : ℕ) → StandsAfter t i 44 m → m ≤ k → IsBlank t m j → k ≤ j → EndsInput (step u next i)

  pub cuts : (b : ContainerKind) → Cuts (container_first b) (container_step b u)
  cuts b =
      let next = container_step b u in
      let comma = container_comma b in
      let early = end_kind-early b in
      record {
        first-cut = λ i j blanks le ge. (end_kind_of b, row-cut t k within (container_first b) i j blanks le ge, early);
        next-cut = λ i j blanks le ge. (end_kind_of b, row-cut t k within next i j blanks le ge, early);
        comma-cut = λ i m j h le blanks ge.
            let g = prefix-after t k within i 44 m h le in
            let here = row-at u next i g.at 44 g.blanks g.here refl in
            let there = if-false _ (closed (g.at + 1)) (step u comma (g.at + 1)) (closer-no_comma b) in
            let ends = here ∙ there ∙ ap (step u comma) (sym g.ends) ∙ row-cut t k within comma m j blanks le ge in
            (eof_value, ends, refl);
      }

  -- after a key: its colon, and what is before its value
  pub colon-cut : (i c : ℕ) → StandsAfter t i 58 c → i ≤ k → k < c → object_colon u i ≡ failed eof_object k
  colon-cut i c h le lt =
      ap (λ x. span_then x (step u value_first))
      (row-cut t k within colon i h.at h.blanks le (omega (arith, h.ends)))

  pub value_first-cut : (i c j : ℕ) → StandsAfter t i 58 c → c ≤ k → IsBlank t c j → k ≤ j
      → object_colon u i ≡ failed eof_value k
  value_first-cut i c j h le b ge =
      let g = prefix-after t k within i 58 c h le in
      ap (λ x. span_then x (step u value_first)) (row-at u colon i g.at 58 g.blanks g.here refl)
      ∙ ap (step u value_first) (sym g.ends)
      ∙ row-cut t k within value_first c j b le ge

  -- What ends at e is read as it is seen, if it ends by k; or it is cut.
  abbrev pub ReadTo : {P Q : Type 0} → (P → Q) → (P → Reading Q → Type 0) → P → ℕ → Reading Q → Type 0
  ReadTo seen IsCut p e x = (e ≤ k → x ≡ done (seen p) e) × (k < e → IsCut p x)

  module _ {P Q A : Type 0} (c : Container Q A) (value : P → Node) (seen : P → Q) (IsCut : P → Reading Q → Type 0) where
    -- From i on, where this row decides: the input ends before a value begins, or a part begins whose value does not
    -- end by k and which is cut, or one that is seen and then the rest.
    abbrev pub CutParts : (ℕ → Option ℕ → Step) → ℕ → List P → Type 0
    CutParts row i [] = EndsInput (step u row i)
    CutParts row i (p ∷ ps) =
        (EndsInput (step u row i) × (k ≤ begin (value p)))
        ⊎ ((j : ℕ) × (step u row i ≡ more j) × (j < k)
        × (((k < end (value p)) × IsCut p (c.part j))
        ⊎ ((end (value p) ≤ k) × (e : ℕ) × (c.part j ≡ done (seen p) e) × CutParts c.next e ps)))

    -- How c reads in the prefix what the text has as parts.
    pub record ReadsPrefix (closer : ℕ) (Begins : List ℕ → ℕ → Type 0) (IsPart : ℕ → P → ℕ → Type 0) : Type 0 where
      pub delimits : Delimits u c.first c.next closer (Begins u)
      pub ends : Cuts c.first c.next
      pub begins : (j : ℕ) → j < k → Begins t j → Begins u j
      pub value-begins : (j : ℕ) (p : P) (e : ℕ) → IsPart j p e → j ≤ begin (value p)
      pub value-ends : (j : ℕ) (p : P) (e : ℕ) → IsPart j p e → end (value p) ≡ e
      pub ahead : (j : ℕ) (p : P) (e : ℕ) → IsPart j p e → j < e
      pub reads : (j : ℕ) (p : P) (e : ℕ) → IsPart j p e → j < k → ReadTo seen IsCut p e (c.part j)

    module _ {closer : ℕ} {Begins : List ℕ → ℕ → Type 0} {IsPart : ℕ → P → ℕ → Type 0}
        (prefix : ReadsPrefix closer Begins IsPart) where
      abbrev More : List P → ℕ → ℕ → Type 0
      More ps i e = MoreParts t closer (Begins t) IsPart ps i e

      abbrev First : ℕ → P → List P → ℕ → Type 0
      First i p ps e = PartThen t closer (Begins t) IsPart i p (λ f. More ps f e)

      -- the steps before a part that begins before the cut
      more-first : (i e : ℕ) (p : P) (ps : List P) (x : First i p ps e) → x.begin < k → step u c.first i ≡ more x.begin
      more-first i e p ps x lt =
          let blanks = prefix-blank t k within i x.begin x.blanks (omega arith) in
          prefix.delimits.first-more i x.begin blanks (prefix.begins x.begin lt x.begins)

      more-next : (i m e : ℕ) (p : P) (ps : List P) (x : First m p ps e) → StandsAfter t i 44 m → x.begin < k
          → step u c.next i ≡ more x.begin
      more-next i m e p ps x h lt =
          let comma = prefix-after t k within i 44 m h (omega (arith, x.blanks.ordered)) in
          let blanks = prefix-blank t k within m x.begin x.blanks (omega arith) in
          prefix.delimits.next-more i m x.begin comma blanks (prefix.begins x.begin lt x.begins)

      -- A container that ends by k is read as in the whole text.
      more-ahead : (ps : List P) (i e : ℕ) → More ps i e → i < e
      more-ahead [] i e h = after-ahead t i closer e h
      more-ahead (p ∷ ps) i e h =
          let x = h.2 in
          let order = prefix.ahead x.begin p x.end x.is in
          omega (arith, after-ahead t i 44 h.0 h.1, x.blanks.ordered, more-ahead ps x.end e x.rest)

      module _ {K : Type 0} (r : Rules K A) (free : (qs : List Q) (i : ℕ) → c.refuses qs i ≡ None) (goes : Goes c u)
        where
          abbrev At : List Q → ℕ → Reading A
          At qs i = parts_at r c u (length u) qs i

          abbrev After : List Q → Step → Reading A
          After qs s = follow r (At qs) (λ e. c.build e qs) s

          before : (m e : ℕ) (p : P) (ps : List P) (x : First m p ps e) → e ≤ k → (x.begin < k) × (x.end ≤ k)
          before m e p ps x le =
              let order = prefix.ahead x.begin p x.end x.is in
              let rest = more-ahead ps x.end e x.rest in
              (omega arith, omega arith)

          first-whole : (so_far : List Q) (m e : ℕ) (p : P) (ps : List P) (x : First m p ps e) → e ≤ k
              → After (so_far ++ seen p ∷ []) (step u c.next x.end)
              ≡ done (c.build e ((so_far ++ seen p ∷ []) ++ map seen ps)) e
              → At so_far x.begin ≡ done (c.build e (so_far ++ map seen (p ∷ ps))) e
          first-whole so_far m e p ps x le rest =
              let order = before m e p ps x le in
              parts-part r u c goes x.begin x.end so_far (seen p) _ (omega (arith, prefix-length t k within))
              (free so_far x.begin) ((prefix.reads x.begin p x.end x.is order.0).0 order.1) refl
              ∙ rest ∙ ap (λ l. done (c.build e l) e) (append_assoc so_far (seen p ∷ []) (map seen ps))

          more-whole : (so_far : List Q) (ps : List P) (i e : ℕ) → More ps i e → e ≤ k
              → After so_far (step u c.next i) ≡ done (c.build e (so_far ++ map seen ps)) e
          more-whole so_far [] i e h le =
              ap (After so_far) (prefix.delimits.next-closed i e (prefix-after t k within i closer e h le))
              ∙ ap (λ l. done (c.build e l) e) (sym (append-nil so_far))
          more-whole so_far (p ∷ ps) i e h le =
              let x = h.2 in
              ap (After so_far) (more-next i h.0 e p ps x h.1 (before h.0 e p ps x le).0)
              ∙ first-whole so_far h.0 e p ps x le (more-whole (so_far ++ seen p ∷ []) ps x.end e x.rest le)

          pub container-whole : (ps : List P) (b e : ℕ) → Parts t closer (Begins t) IsPart ps (b + 1) e → e ≤ k
              → container_at r c u b ≡ done (c.build e (map seen ps)) e
          container-whole [] b e h le =
              ap (After []) (prefix.delimits.first-closed (b + 1) e (prefix-after t k within (b + 1) closer e h le))
          container-whole (p ∷ ps) b e h le =
              ap (After []) (more-first (b + 1) e p ps h (before (b + 1) e p ps h le).0)
              ∙ first-whole [] (b + 1) e p ps h le (more-whole (seen p ∷ []) ps h.end e h.rest le)

      -- Of one that k cuts as much is read as is before k.
      first-cut : (row : ℕ → Option ℕ → Step) (i m e : ℕ) (p : P) (ps : List P) (x : First m p ps e)
          → (k ≤ x.begin → EndsInput (step u row i)) → (x.begin < k → step u row i ≡ more x.begin)
          → (x.end ≤ k → CutParts c.next x.end ps) → CutParts row i (p ∷ ps)
      first-cut row i m e p ps x unread goes rest = by (cases_lt x.begin k) (cases_lt k x.end) where
        by : (x.begin < k) ⊎ (k ≤ x.begin) → (k < x.end) ⊎ (x.end ≤ k) → CutParts row i (p ∷ ps)
        by (inr past) y = inl (unread past, omega (arith, prefix.value-begins x.begin p x.end x.is))
        by (inl lt) (inl gt) =
            let ends = prefix.value-ends x.begin p x.end x.is in
            inr (x.begin, goes lt, lt, inl (omega arith, (prefix.reads x.begin p x.end x.is lt).1 gt))
        by (inl lt) (inr le) =
            let ends = prefix.value-ends x.begin p x.end x.is in
            inr (x.begin, goes lt, lt, inr (omega arith, x.end, (prefix.reads x.begin p x.end x.is lt).0 le, rest le))

      more-cut : (ps : List P) (i e : ℕ) → More ps i e → i ≤ k → k < e → CutParts c.next i ps
      more-cut [] i e h le lt = prefix.ends.next-cut i h.at h.blanks le (omega (arith, h.ends))
      more-cut (p ∷ ps) i e h le lt = by (cases_lt k h.0) (λ past. more-cut ps h.2.end e h.2.rest past lt) where
        by : (k < h.0) ⊎ (h.0 ≤ k) → (h.2.end ≤ k → CutParts c.next h.2.end ps) → CutParts c.next i (p ∷ ps)
        by (inl gt) rest =
            let later = prefix.value-begins h.2.begin p h.2.end h.2.is in
            let ends = prefix.ends.next-cut i h.1.at h.1.blanks le (omega (arith, h.1.ends)) in
            inl (ends, omega (arith, h.2.blanks.ordered))
        by (inr comma) rest =
            first-cut c.next i h.0 e p ps h.2 (λ past. prefix.ends.comma-cut i h.0 h.2.begin h.1 comma h.2.blanks past)
            (more-next i h.0 e p ps h.2 h.1) rest

      pub parts-cut : (ps : List P) (i e : ℕ) → Parts t closer (Begins t) IsPart ps i e → i ≤ k → k < e
          → CutParts c.first i ps
      parts-cut [] i e h le lt = prefix.ends.first-cut i h.at h.blanks le (omega (arith, h.ends))
      parts-cut (p ∷ ps) i e h le lt =
          first-cut c.first i i e p ps h (λ past. prefix.ends.first-cut i h.begin h.blanks le past)
          (more-first i e p ps h) (λ past. more-cut ps h.end e h.rest past lt)
