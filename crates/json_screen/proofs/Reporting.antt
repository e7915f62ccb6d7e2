-- What is reported of an input's error.
use Rattle.std.proofs.Common.{◌≡◌, ℕ, List, Option, Some, None, subst}
use Rattle.json_screen.specs.Report.{error_text, IsReport}

pub some-reported : (name t : List ℕ) (o : Option (ℕ × List ℕ)) (x : ℕ × List ℕ) (text : List ℕ) → Some x ≡ o
    → text ≡ error_text name t x.0 x.1 → IsReport name t o (Some text)
some-reported name t o x text is told = subst (λ e. IsReport name t e (Some text)) is told

pub none-reported : (name t : List ℕ) (o : Option (ℕ × List ℕ)) → None ≡ o → IsReport name t o None
none-reported name t o is = subst (λ e. IsReport name t e None) is tt
