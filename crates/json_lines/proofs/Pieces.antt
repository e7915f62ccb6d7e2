-- An array that is read piece by piece: what is written of it so far, and what is left.
use Rattle.std.proofs.Common.{◌≡◌, ◌∙◌, ap, refl, sym, subst, ℕ, ◌+◌, Bool, true, false, List, [], ◌∷◌, ◌++◌, Option, Some, None, IfSome}
use Rattle.std.specs.Prelude.{⊤, codes}
use Rattle.std.proofs.KnownBytes.{Appends-nil}
use Rattle.std.proofs.lemmas.List.Elements.{All-nil}
use Rattle.std.proofs.lemmas.List.Sums.{prefix_len-le-length}
use Rattle.std.proofs.Common.{append_assoc, append-nil, arith, length, take}
use Rattle.std.proofs.lemmas.Option.{IfSome_then}
use Rattle.std.specs.Io.KnownBytes.{Appends}
use Rattle.jiter_print.specs.Written.{AppendsPrefix}
use Rattle.jiter_scan.specs.declared.errors.LinePosition.{LinePosition}
use Rattle.json_lines.specs.Items.{Part, after_array, after_blanks, blanks, is_white, outside, parts_of, pieces}
use Rattle.json_lines.specs.ItemsRead.{StartsAt, TakesPiece, end_byte, past, piece_parts, pieces_by, tail_count, tail_report}
use Rattle.json_lines.specs.ItemsWritten.{IsRight, WritesPartly, WritesParts}
use Rattle.json_lines.specs.Line.{Seen}
use Rattle.json_lines.specs.declared.array.Ended.{Ended}
use Rattle.json_lines.specs.declared.array.Ended.TheVariants as ended
use Rattle.json_lines.specs.declared.log.Counts.{Counts}
use Rattle.json_lines.proofs.ItemsWriting.{parts-as, partly-as, wrote-both, wrote-none, wrote-nothing, wrote-partly-more, wrote-then-partly}
use Rattle.json_lines.proofs.ItemsWriting.{wrote-wrong, wrote-wrong-partly}
use Rattle.json_lines.proofs.Known.{no-part}
use Rattle.json_lines.proofs.Positions.{starts-front, starts-rest}

-- the parts after a piece that is ended so
abbrev pub rest_parts : Ended → ℕ → List ℕ → List Part
rest_parts ended.Comma k rest = parts_of k false (pieces (outside 0) rest)
rest_parts ended.Bracket k rest = after_array (k + blanks rest) (after_blanks rest)
rest_parts ended.Input k rest = []

parts-by : (e : Ended) (first : Bool) (j : ℕ) (bs rest : List ℕ)
    → parts_of j first (pieces_by e bs rest) ≡ piece_parts e first j bs ++ rest_parts e (j + length bs + 1) rest
parts-by ended.Comma first j bs rest = refl
parts-by ended.Bracket first j bs rest = refl
parts-by ended.Input first j bs rest = refl

-- a byte ends the piece
abbrev pub HasByte : Ended → Type 0
HasByte ended.Comma = ⊤
HasByte ended.Bracket = ⊤
HasByte ended.Input = ⊥

rest-starts : (at : ℕ → LinePosition) (j : ℕ) (q : LinePosition) (e : Ended) (bs rest : List ℕ) → HasByte e
    → StartsAt at j q (bs ++ (end_byte e ++ rest)) → StartsAt at (j + length bs + 1) (past (past q bs) (44 ∷ [])) rest
rest-starts at j q ended.Comma bs rest some h =
    starts-rest at (j + length bs) (past q bs) (44 ∷ []) rest (starts-rest at j q bs (44 ∷ rest) h)
rest-starts at j q ended.Bracket bs rest some h =
    starts-rest at (j + length bs) (past q bs) (93 ∷ []) rest (starts-rest at j q bs (93 ∷ rest) h)
rest-starts at j q ended.Input bs rest some h = absurd some

module _ (becomes : List ℕ → Seen → Type 0) (name : List ℕ) (out err bad : Option (List ℕ)) where
  module _ (at : ℕ → LinePosition) (k : ℕ) (r : LinePosition) (more : List ℕ) (starts : StartsAt at k r more) where
    tail-place : past r (take (blanks more) more) ≡ at (k + blanks more)
    tail-place = sym (starts (blanks more) (prefix_len-le-length is_white more))

    tail-wrote : (counts : Counts) → counts.texts ≡ 0 → (out' err' err'' bad' : Option (List ℕ)) → counts.refused ≡ tail_count (after_blanks more)
        → Appends err' err'' (tail_report name (past r (take (blanks more) more)) (after_blanks more))
        → WritesParts becomes name at (after_array (k + blanks more) (after_blanks more)) counts out' out' err' err'' bad' bad'
    tail-wrote counts texts out' err' err'' bad' = by (after_blanks more) where
      by : (l : List ℕ) → counts.refused ≡ tail_count l → Appends err' err'' (tail_report name (past r (take (blanks more) more)) l)
          → WritesParts becomes name at (after_array (k + blanks more) l) counts out' out' err' err'' bad' bad'
      by [] refused told = record {
        answers = [];
        parts = refl;
        right = All-nil (λ a. IsRight becomes a.part a.outcome);
        texts = Appends-nil out';
        reports = told;
        kept = Appends-nil bad';
        texts_counted = texts;
        refusals_counted = refused;
      }
      by (b ∷ l) refused told =
          wrote-wrong becomes name at (k + blanks more) (codes "trailing characters") [] (past r (take (blanks more) more)) tail-place
          out' err' err'' bad' bad' counts texts refused told (Appends-nil bad')

    tail-wrote-partly : (out' err' err'' bad' : Option (List ℕ))
        → AppendsPrefix err' err'' (tail_report name (past r (take (blanks more) more)) (after_blanks more))
        → WritesPartly becomes name at (after_array (k + blanks more) (after_blanks more)) out' out' err' err'' bad' bad'
    tail-wrote-partly out' err' err'' bad' = by (after_blanks more) where
      by : (l : List ℕ) → AppendsPrefix err' err'' (tail_report name (past r (take (blanks more) more)) l)
          → WritesPartly becomes name at (after_array (k + blanks more) l) out' out' err' err'' bad' bad'
      by [] told = record {
        answers = [];
        others = [];
        parts = refl;
        right = All-nil (λ a. IsRight becomes a.part a.outcome);
        texts = no-part out' [];
        reports = told;
        kept = no-part bad' [];
      }
      by (b ∷ l) told =
          wrote-wrong-partly becomes name at (k + blanks more) (codes "trailing characters") [] (past r (take (blanks more) more)) tail-place
          out' err' err'' bad' bad' told (no-part bad' [])

  -- These parts are written of all, and the others are left.
  pub record GoingAt (at : ℕ → LinePosition) (all : List Part) (now : Option (List ℕ)) (q : LinePosition) (first : Bool)
      (counts : Counts) (out' err' bad' : Option (List ℕ)) : Type 0 where
    pub rest : List ℕ
    pub index : ℕ
    pub done : List Part
    pub left : now ≡ Some rest
    pub here : StartsAt at index q rest
    pub parts : all ≡ done ++ parts_of index first (pieces (outside 0) rest)
    pub writes : WritesParts becomes name at done counts out out' err err' bad bad'

  -- what holds of the array that a reader of known bytes has, wherever they begin
  abbrev pub OfArray : Option (List ℕ) → LinePosition → ((ℕ → LinePosition) → List Part → Type 0) → Type 0
  OfArray old p P = IfSome old (λ xs. (i : ℕ) (at : ℕ → LinePosition) → StartsAt at i p xs → P at (parts_of i true (pieces (outside 0) xs)))

  of-array : (old : Option (List ℕ)) (p : LinePosition) (P Q : (ℕ → LinePosition) → List Part → Type 0)
      → ((at : ℕ → LinePosition) (all : List Part) → P at all → Q at all) → OfArray old p P → OfArray old p Q
  of-array old p P Q f h = IfSome_then old h (λ xs k i at starts. f at _ (k i at starts))

  -- between two pieces
  abbrev pub Going : Option (List ℕ) → LinePosition → Option (List ℕ) → LinePosition → Bool → Counts → Option (List ℕ) → Option (List ℕ)
      → Option (List ℕ) → Type 0
  Going old p now q first counts out' err' bad' = OfArray old p (λ at all. GoingAt at all now q first counts out' err' bad')

  abbrev pub Wrote : Option (List ℕ) → LinePosition → Counts → Option (List ℕ) → Option (List ℕ) → Option (List ℕ) → Type 0
  Wrote old p counts out' err' bad' = OfArray old p (λ at all. WritesParts becomes name at all counts out out' err err' bad bad')

  abbrev pub WrotePartly : Option (List ℕ) → LinePosition → Option (List ℕ) → Option (List ℕ) → Option (List ℕ) → Type 0
  WrotePartly old p out' err' bad' = OfArray old p (λ at all. WritesPartly becomes name at all out out' err err' bad bad')

  pub going-begun : (old : Option (List ℕ)) (p q : LinePosition) (counts : Counts) → q ≡ p → counts.texts ≡ 0 → counts.refused ≡ 0
      → Going old p old q true counts out err bad
  going-begun None p q counts same a b = tt
  going-begun (Some xs) p q counts same a b = λ i at starts. record {
    rest = xs;
    index = i;
    done = [];
    left = refl;
    here = subst (λ z. StartsAt at i z xs) (sym same) starts;
    parts = refl;
    writes = wrote-none becomes name at counts out err bad a b;
  }

  pub never-begun : (old : Option (List ℕ)) (p : LinePosition) → WrotePartly old p out err bad
  never-begun None p = tt
  never-begun (Some xs) p = λ i at starts. wrote-nothing becomes name at _ out err bad

  module _ (old : Option (List ℕ)) (p : LinePosition) (now : Option (List ℕ)) (q : LinePosition) (first : Bool) (counts : Counts)
      (out' err' bad' : Option (List ℕ)) (h : Going old p now q first counts out' err' bad') where
    -- nothing more is written
    pub going-stopped : WrotePartly old p out' err' bad'
    going-stopped = of-array old p _ _ (λ at all (x : GoingAt at all now q first counts out' err' bad').
        partly-as becomes name at _ all (sym x.parts)
        (wrote-then-partly becomes name at x.done _ counts out out' err err' bad bad' x.writes out' err' bad'
        (wrote-nothing becomes name at _ out' err' bad'))) h

    -- a piece was read
    module _ (new : Option (List ℕ)) (e : Ended) (bs : List ℕ) (read : TakesPiece now new e bs) where
      taken : (rest : List ℕ) → now ≡ Some rest → (more : List ℕ) × (new ≡ Some more) × (rest ≡ bs ++ (end_byte e ++ more))
          × (pieces (outside 0) rest ≡ pieces_by e bs more)
      taken rest is = subst (λ o. TakesPiece o new e bs) is read

      all-is : (all done : List Part) (j : ℕ) (rest more : List ℕ) → all ≡ done ++ parts_of j first (pieces (outside 0) rest)
          → pieces (outside 0) rest ≡ pieces_by e bs more
          → all ≡ (done ++ piece_parts e first j bs) ++ rest_parts e (j + length bs + 1) more
      all-is all done j rest more is by =
          is ∙ ap (λ x. done ++ parts_of j first x) by ∙ ap (λ l. done ++ l) (parts-by e first j bs more)
          ∙ sym (append_assoc done (piece_parts e first j bs) (rest_parts e (j + length bs + 1) more))

      piece-starts : (at : ℕ → LinePosition) (j : ℕ) (rest more : List ℕ) → rest ≡ bs ++ (end_byte e ++ more) → StartsAt at j q rest
          → StartsAt at j q bs
      piece-starts at j rest more is here = starts-front at j q bs (end_byte e ++ more) (subst (StartsAt at j q) is here)

      -- part of what the piece becomes is written
      pub going-broken : (out'' err'' bad'' : Option (List ℕ)) → ((j : ℕ) (at : ℕ → LinePosition) → StartsAt at j q bs
          → WritesPartly becomes name at (piece_parts e first j bs) out' out'' err' err'' bad' bad'') → WrotePartly old p out'' err'' bad''
      going-broken out'' err'' bad'' part = of-array old p _ _ (λ at all (x : GoingAt at all now q first counts out' err' bad').
          let t = taken x.rest x.left in
          partly-as becomes name at _ all (sym (all-is all x.done x.index x.rest t.0 x.parts t.3))
          (wrote-partly-more becomes name at _ _ out out'' err err'' bad bad''
          (wrote-then-partly becomes name at x.done _ counts out out' err err' bad bad' x.writes out'' err'' bad''
          (part x.index at (piece-starts at x.index x.rest t.0 t.2 x.here))))) h

      -- all of it is
      module _ (out'' err'' bad'' : Option (List ℕ)) (one both : Counts) (whole : (j : ℕ) (at : ℕ → LinePosition) → StartsAt at j q bs
          → WritesParts becomes name at (piece_parts e first j bs) one out' out'' err' err'' bad' bad'')
          (texts : both.texts ≡ counts.texts + one.texts) (refusals : both.refused ≡ counts.refused + one.refused) where
        joined : (at : ℕ → LinePosition) (all : List Part) (x : GoingAt at all now q first counts out' err' bad')
            → WritesParts becomes name at (x.done ++ piece_parts e first x.index bs) both out out'' err err'' bad bad''
        joined at all x =
            let t = taken x.rest x.left in
            wrote-both becomes name at x.done _ counts out out' err err' bad bad' x.writes out'' err'' bad'' one both
            (whole x.index at (piece-starts at x.index x.rest t.0 t.2 x.here)) texts refusals

        pub going-failed : WrotePartly old p out'' err'' bad''
        going-failed = of-array old p _ _ (λ at all (x : GoingAt at all now q first counts out' err' bad').
            let t = taken x.rest x.left in
            partly-as becomes name at _ all (sym (all-is all x.done x.index x.rest t.0 x.parts t.3))
            (wrote-then-partly becomes name at _ _ both out out'' err err'' bad bad'' (joined at all x) out'' err'' bad''
            (wrote-nothing becomes name at _ out'' err'' bad''))) h

        pub going-cut : e ≡ ended.Input → Wrote old p both out'' err'' bad''
        going-cut is = of-array old p _ _ (λ at all (x : GoingAt at all now q first counts out' err' bad').
            let t = taken x.rest x.left in
            let none : rest_parts e (x.index + length bs + 1) t.0 ≡ [] = ap (λ z. rest_parts z (x.index + length bs + 1) t.0) is in
            let same = all-is all x.done x.index x.rest t.0 x.parts t.3 ∙ ap (λ l. (x.done ++ piece_parts e first x.index bs) ++ l) none
            ∙ append-nil (x.done ++ piece_parts e first x.index bs) in
            parts-as becomes name at _ all (sym same) (joined at all x)) h

        pub going-on : (r : LinePosition) → r ≡ past (past q bs) (44 ∷ []) → e ≡ ended.Comma → (next : Bool) → next ≡ false
            → Going old p new r next both out'' err'' bad''
        going-on r there is next later = of-array old p _ (λ at all. GoingAt at all new r next both out'' err'' bad'')
            (λ at all (x : GoingAt at all now q first counts out' err' bad').
            let t = taken x.rest x.left in
            let some : HasByte e = subst HasByte (sym is) tt in
            let begins = rest-starts at x.index q e bs t.0 some (subst (StartsAt at x.index q) t.2 x.here) in
            let others : rest_parts e (x.index + length bs + 1) t.0 ≡ parts_of (x.index + length bs + 1) next (pieces (outside 0) t.0) =
            ap (λ z. rest_parts z (x.index + length bs + 1) t.0) is
            ∙ ap (λ z. parts_of (x.index + length bs + 1) z (pieces (outside 0) t.0)) (sym later) in record {
              rest = t.0;
              index = x.index + length bs + 1;
              done = x.done ++ piece_parts e first x.index bs;
              left = t.1;
              here = subst (λ z. StartsAt at (x.index + length bs + 1) z t.0) (sym there) begins;
              parts = all-is all x.done x.index x.rest t.0 x.parts t.3
                  ∙ ap (λ l. (x.done ++ piece_parts e first x.index bs) ++ l) others;
              writes = joined at all x;
            }) h

        -- what follows the array
        module _ (r : LinePosition) (there : r ≡ past (past q bs) (44 ∷ [])) (is : e ≡ ended.Bracket) where
          tail-shape : (all done : List Part) (j : ℕ) (rest more : List ℕ) → all ≡ done ++ parts_of j first (pieces (outside 0) rest)
              → pieces (outside 0) rest ≡ pieces_by e bs more
              → all ≡ (done ++ piece_parts e first j bs) ++ after_array (j + length bs + 1 + blanks more) (after_blanks more)
          tail-shape all done j rest more parts by =
              all-is all done j rest more parts by
              ∙ ap (λ z. (done ++ piece_parts e first j bs) ++ rest_parts z (j + length bs + 1) more) is

          tail-starts : (at : ℕ → LinePosition) (j : ℕ) (rest more : List ℕ) → rest ≡ bs ++ (end_byte e ++ more) → StartsAt at j q rest
              → StartsAt at (j + length bs + 1) r more
          tail-starts at j rest more split here =
              let some : HasByte e = subst HasByte (sym is) tt in
              subst (λ z. StartsAt at (j + length bs + 1) z more) (sym there)
              (rest-starts at j q e bs more some (subst (StartsAt at j q) split here))

          pub going-done : (n : ℕ) (last : Counts) (told-err : Option (List ℕ)) → last.texts ≡ both.texts → last.refused ≡ both.refused + n
              → IfSome new (λ ys. (n ≡ tail_count (after_blanks ys))
              × Appends err'' told-err (tail_report name (past r (take (blanks ys) ys)) (after_blanks ys)))
              → Wrote old p last out'' told-err bad''
          going-done n last told-err texts' refusals' told = of-array old p _ _ (λ at all (x : GoingAt at all now q first counts out' err' bad').
              let t = taken x.rest x.left in
              let tail = subst (λ o. IfSome o (λ ys. (n ≡ tail_count (after_blanks ys))
              × Appends err'' told-err (tail_report name (past r (take (blanks ys) ys)) (after_blanks ys)))) t.1 told in
              let rests : Counts = record { texts = 0; refused = n } in
              parts-as becomes name at _ all (sym (tail-shape all x.done x.index x.rest t.0 x.parts t.3))
              (wrote-both becomes name at _ _ both out out'' err err'' bad bad'' (joined at all x) out'' told-err bad'' rests last
              (tail-wrote at (x.index + length bs + 1) r t.0 (tail-starts at x.index x.rest t.0 t.2 x.here) rests refl
              out'' err'' told-err bad'' tail.0 tail.1)
              (omega (arith, texts')) refusals')) h

          pub going-undone : (told-err : Option (List ℕ))
              → IfSome new (λ ys. AppendsPrefix err'' told-err (tail_report name (past r (take (blanks ys) ys)) (after_blanks ys)))
              → WrotePartly old p out'' told-err bad''
          going-undone told-err told = of-array old p _ _ (λ at all (x : GoingAt at all now q first counts out' err' bad').
              let t = taken x.rest x.left in
              let tail = subst (λ o. IfSome o (λ ys. AppendsPrefix err'' told-err
              (tail_report name (past r (take (blanks ys) ys)) (after_blanks ys)))) t.1 told in
              partly-as becomes name at _ all (sym (tail-shape all x.done x.index x.rest t.0 x.parts t.3))
              (wrote-then-partly becomes name at _ _ both out out'' err err'' bad bad'' (joined at all x) out'' told-err bad''
              (tail-wrote-partly at (x.index + length bs + 1) r t.0 (tail-starts at x.index x.rest t.0 t.2 x.here)
              out'' err'' told-err bad'' tail))) h
