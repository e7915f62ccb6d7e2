use Rattle.jiter_steps.proofs.Words.{◌≡◌, ◌∙◌, true, false, length, nat_eq, sym, ap, subst, IsUtf8-string_bytes, IsUtf8}
use Rattle.jiter_steps.proofs.Chunks.OpenTexts.{is_text-kept, is_text-whole, is_text-broken}
use Rattle.jiter_steps.proofs.partial_text.PartialText.is_text.Goals as goal

pub returns-then-partial-clause-checked : goal.returns-then-partial-clause-checked
returns-then-partial-clause-checked c =
    λ d h i e owned.
    let s = c.args.self.now in
    let utf8 : IsUtf8 s.text = subst (λ x. IsUtf8 x.text) c.self.view_is (IsUtf8-string_bytes c.self.inside.text) in
    let unbroken : s.broken ≡ false = ap (λ x. x.broken) (sym c.self.view_is) ∙ c.if-not-self.true in
    is_text-kept s d utf8 i e owned h unbroken c.args.partial c.if-partial.true

pub returns-else-partial-clause-checked : goal.returns-else-partial-clause-checked
returns-else-partial-clause-checked c =
    λ d h i e owned.
    let s = c.args.self.now in
    let utf8 : IsUtf8 s.text = subst (λ x. IsUtf8 x.text) c.self.view_is (IsUtf8-string_bytes c.self.inside.text) in
    let unbroken : s.broken ≡ false = ap (λ x. x.broken) (sym c.self.view_is) ∙ c.if-not-self.true in
    is_text-whole s d utf8 i e owned h unbroken c.args.partial c.if-partial.false c.is_empty.result
    (c.is_empty.ensures ∙ ap (λ l. nat_eq (length l) 0) (c.as_slice.ensures.value ∙ ap (λ x. x.rest) c.self.view_is))

pub returns-else-not-self-clause-checked : goal.returns-else-not-self-clause-checked
returns-else-not-self-clause-checked c =
    λ d h i e owned.
    let s = c.args.self.now in
    let utf8 : IsUtf8 s.text = subst (λ x. IsUtf8 x.text) c.self.view_is (IsUtf8-string_bytes c.self.inside.text) in
    let answer : c.self.inside.broken ≡ true = c.if-not-self.false in
    let broken : s.broken ≡ true = ap (λ x. x.broken) (sym c.self.view_is) ∙ answer in
    is_text-broken s d utf8 i e owned h broken c.args.partial c.self.inside.broken answer
