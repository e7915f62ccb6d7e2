-- What is printed of known bytes is read again.
use Rattle.std.proofs.Common.{◌≡◌, inl, inr, ℕ, Bool, true, false, List, Option, refl, sym, subst}
use Rattle.std.specs.Prelude.{Some, None, IfSome}
use Rattle.jiter_scan.specs.Kind.{Kind, duplicate_key, is_forgiven}
use Rattle.jiter_scan.specs.declared.partial_mode.PartialMode.{PartialMode}
use Rattle.jiter_scan.specs.declared.partial_mode.PartialMode.TheVariants.{Off, On, TrailingStrings}
use Rattle.jiter_steps.specs.Answer.{answer_in, partial_trees, whole_trees}
use Rattle.jiter_steps.specs.Read.{Reading, done, fault}
use Rattle.jiter_steps.specs.Tree.{Tree}
use Rattle.jiter_steps.specs.Unique.{own_bytes, unique_answer_in}
use Rattle.jiter_steps.proofs.Unique.Agreeing.{Agrees, IsOfRepeat, prefix_answer-agrees, whole_answer-agrees}
use Rattle.jiter_print.specs.Printed.{PrintsAgain}
use Rattle.jiter_print.proofs.PrintLaw.{prints_again}
use Rattle.look.specs.Run.{reading_of}

-- what agrees with a reading whose value is read again
agreeing-again : (names : Bool) (x y : Reading Tree) → Agrees x y → PrintsAgain names y → PrintsAgain names x
agreeing-again names x y (inl is) h = subst (PrintsAgain names) (sym is) h
agreeing-again names (done v e) y (inr repeat) h = absurd repeat
agreeing-again names (fault k i stop) y (inr repeat) h = tt

-- no partial mode forgives a repeated key
not-forgiven : (k : Kind) → IsOfRepeat k → is_forgiven k ≡ false
not-forgiven (duplicate_key key) is = refl
not-forgiven k is = absurd is

unique-agrees : (names : Bool) (mode : PartialMode) (t : List ℕ)
    → Agrees (unique_answer_in names mode t) (answer_in names mode t)
unique-agrees names Off t = whole_answer-agrees own_bytes (whole_trees names) (λ ms u i. refl) (λ k h. refl) t
unique-agrees names On t = prefix_answer-agrees own_bytes (partial_trees names On) (λ ms u i. refl) not-forgiven t
unique-agrees names TrailingStrings t =
    prefix_answer-agrees own_bytes (partial_trees names TrailingStrings) (λ ms u i. refl) not-forgiven t

reading-again : (names unique : Bool) (mode : PartialMode) (t : List ℕ)
    → PrintsAgain names (reading_of names unique mode t)
reading-again names false mode t = prints_again names mode t
reading-again names true mode t =
    agreeing-again names (unique_answer_in names mode t) (answer_in names mode t) (unique-agrees names mode t)
    (prints_again names mode t)

-- of known bytes, if they are known
pub prints_again_if_known : (names unique : Bool) (mode : PartialMode) (known : Option (List ℕ))
    → IfSome known (λ t. PrintsAgain names (reading_of names unique mode t))
prints_again_if_known names unique mode None = tt
prints_again_if_known names unique mode (Some t) = reading-again names unique mode t
