-- What the client builds is the value that is read, each of its texts owned.
use Rattle.jiter.proofs.Words.{◌≡◌, ◌∙◌, refl, sym, ap, ℕ, Bool, List, subst, Result, whole_trees, start_of}
use Rattle.jiter.proofs.Words.{nesting_limit, Reading, done, fault, Tree, owned_text, owned_tree, reading_as}
use Rattle.jiter.proofs.Words.{owned_trees, built, MovesOn, Replies, StandsAt, reply_seen, Reads, anywhere, ReaderState}
use Rattle.jiter.proofs.Words.{with_position, value_place, if_byte, next, value_reply, value_read, JiterError}
use Rattle.jiter_scan.specs.declared.partial_mode.PartialMode.TheVariants.{Off}
use Rattle.jiter_steps.specs.Read.{value_at}
use Rattle.jiter_value.specs.Settings.{each}
use Rattle.jiter_value.proofs.MadeTexts.{value_at-as}
use Rattle.jiter.specs.Jiter.{UnlessMemory}
use Rattle.jiter.proofs.Building.{known-first}

reply-owned : (x : Reading Tree) → reply_seen owned_tree (value_reply x) ≡ value_reply (reading_as owned_tree x)
reply-owned (done v e) = refl
reply-owned (fault k i stop) = refl

-- the reply with its texts owned
value-owned : (names : Bool) (t : List ℕ) (levels i : ℕ)
    → reply_seen owned_tree (value_reply (value_at (whole_trees names) t levels i))
    ≡ value_reply (value_at (owned_trees names) t levels i)
value-owned names t levels i = reply-owned (value_at (whole_trees names) t levels i)
    ∙ ap value_reply (sym (value_at-as (each owned_text) refl
    (record { allow_inf_nan = names; mode = Off }) t levels i))

-- What is built where a value begins, at the place that a peek moves to, is the value that is read.
pub built_as_read : {X : Type 0} (view : X → Tree) (result : Result X JiterError) (s0 s end : ReaderState) (c : ℕ)
    → MovesOn s0 s → s.position ≡ value_place s0 → StandsAt s c
    → Reads anywhere view (built s nesting_limit (start_of c)) result s end
    → UnlessMemory result (Replies view result end (reply_seen owned_tree (next s0 (value_read s0))))
built_as_read view result s0 s end c moves place here leaves =
    let p = value_place s0 in
    let same : s ≡ with_position s0 p = moves.same ∙ ap (with_position s0) place in
    let first : StandsAt (with_position s0 p) c = subst (λ x. StandsAt x c) same here in
    let read = ap (λ o. reply_seen owned_tree (if_byte p o (λ c. value_read s0 p (start_of c)))) first
    ∙ value-owned s0.names s0.text nesting_limit p
    ∙ ap (built (with_position s0 p) nesting_limit) (known-first (with_position s0 p) c first)
    ∙ ap (λ x. built x nesting_limit (start_of c)) (sym same) in
    subst (λ r. UnlessMemory result (Replies view result end r)) (sym read) leaves.value
