-- Where a path leads so far: to a value that comes next, from which the rest of the path goes on.
use Rattle.std.proofs.Common.{◌≡◌, ◌∙◌, ℕ, ◌<◌, ◌≤◌, List, [], ◌++◌, append-nil, append_assoc, length, refl, sym, ap}
use Rattle.std.proofs.Common.{subst, arith}
use Rattle.std.specs.Prelude.{IfSome, Option, Some, None, false, option_map, string_bytes}
use Rattle.jiter_steps.proofs.Grammar.Blanks.{past_blanks-after}
use Rattle.jiter_steps.proofs.Grammar.SpelledParts.{begin-within}
use Rattle.jiter.specs.Caller.{IsDocument, Node, begin}
use Rattle.jiter_walk.specs.declared.path.Part.{Part}
use Rattle.jiter_walk.specs.Path.{path_in}
use Rattle.jiter_walk.specs.Search.{part_begun, part_of, part_view}
use Rattle.jiter_walk.specs.Walk.{Comes}
use Rattle.jiter_walk.proofs.Coming.{document-comes}
use Rattle.jiter_walk.proofs.Paths.{Inside, onward, part-inside, path-on, reader}

module _ (t : List ℕ) (i : ℕ) where
  pub record Left (at : ℕ) (path : List ℕ) (n : Node) : Type 0 where
    pub node : Node
    pub comes : Comes (reader t at) node
    pub leads : path_in t i n ≡ path ++ path_in t i node

  -- in a document
  abbrev pub Leads : ℕ → List ℕ → Type 0
  Leads at path = (n : Node) → IsDocument false t n → Left at path n

  pub leads-begin : (path : List ℕ) → path ≡ [] → Leads 0 path
  leads-begin path none n d = record {
    node = n;
    comes = document-comes t n d;
    leads = ap (λ p. p ++ path_in t i n) (sym none);
  }

  module _ (at : ℕ) (path : List ℕ) (h : Leads at path) where
    -- The value there has no part that holds the byte.
    pub leads-end : ((n : Node) → Comes (reader t at) n → None ≡ part_begun t i n) → (n : Node) → IsDocument false t n
        → path ≡ path_in t i n
    leads-end none n d = by (part_of t i l.node) refl (none l.node l.comes) where
      l : Left at path n
      l = h n d

      by : (o : Option (List ℕ × Node)) → part_of t i l.node ≡ o
          → ◌≡◌ {A = Option (List ℕ × ℕ)} None (option_map (λ p. (p.0, begin p.1)) o) → path ≡ path_in t i n
      by None is same =
          sym (l.leads ∙ ap (λ p. path ++ p) (path-on t i l.node ∙ ap (onward t i) is) ∙ append-nil path)
      by (Some p) is same = absurd (cc)

    -- It has this one.
    module _ (part : Part) (found : (n : Node) → Comes (reader t at) n → Some (part_view part) ≡ part_begun t i n) where
      record Next (n : Node) : Type 0 where
        pub node : Node
        pub comes : Comes (reader t part.begin) node
        pub leads : path_in t i n ≡ path ++ (string_bytes part.step ++ path_in t i node)
        pub ahead : at < part.begin
        pub within : part.begin ≤ length t

      next : (n : Node) → IsDocument false t n → Next n
      next n d = by (part_of t i l.node) refl (found l.node l.comes) (part-inside t i at l.node l.comes) where
        l : Left at path n
        l = h n d

        by : (o : Option (List ℕ × Node)) → part_of t i l.node ≡ o
            → ◌≡◌ {A = Option (List ℕ × ℕ)} (Some (part_view part)) (option_map (λ p. (p.0, begin p.1)) o)
            → IfSome o (λ p. Inside t (begin l.node) p.1) → Next n
        by None is same inside = absurd (cc)
        by (Some p) is same inside =
            let both : ◌≡◌ {A = List ℕ × ℕ} (part_view part) (p.0, begin p.1) = cc in
            let step : string_bytes part.step ≡ p.0 = ap (λ (x : List ℕ × ℕ). x.0) both in
            let place : part.begin ≡ begin p.1 = ap (λ (x : List ℕ × ℕ). x.1) both in
            record {
              node = p.1;
              comes = subst (λ b. Comes (reader t b) p.1) (sym place) inside.comes;
              leads = l.leads ∙ ap (λ x. path ++ x) (path-on t i l.node ∙ ap (onward t i) is
                  ∙ ap (λ s. s ++ path_in t i p.1) (sym step));
              ahead = omega (arith, place, inside.ahead, l.comes.place, past_blanks-after t at);
              within = omega (arith, place, begin-within false t p.1 inside.comes.spelled);
            }

      pub leads-more : (new : List ℕ) → new ≡ path ++ string_bytes part.step → Leads part.begin new
      leads-more new is n d =
          let x = next n d in
          record {
            node = x.node;
            comes = x.comes;
            leads = x.leads ∙ sym (append_assoc path (string_bytes part.step) (path_in t i x.node))
                ∙ ap (λ p. p ++ path_in t i x.node) (sym is);
          }

      pub not-behind : part.begin ≤ at → (n : Node) → IsDocument false t n → ⊥
      not-behind le n d = omega (arith, le, (next n d).ahead)

      pub not-past : length t < part.begin → (n : Node) → IsDocument false t n → ⊥
      not-past lt n d = omega (arith, lt, (next n d).within)
