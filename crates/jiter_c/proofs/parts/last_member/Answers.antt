use Rattle.std.proofs.Common.{◌≡◌, ◌∙◌, sym, ap, subst}
use Rattle.std.specs.Prelude.{if◌then◌else◌, Some, option_map}
use Rattle.jiter.specs.Errors.{cause_of}
use Rattle.jiter.specs.Jiter.{key_bytes}
use Rattle.jiter.specs.Parts.{RefusedAfter, Refuses}
use Rattle.jiter.specs.Reader.{ReaderState}
use Rattle.jiter_steps.specs.StringDecoder.{WantsMemory}
use Rattle.jiter_steps.specs.StringReading.{whole}
use Rattle.jiter.proofs.Walking.{moves-on}
use Rattle.jiter_c.specs.Parts.{MembersPassed}
use Rattle.jiter_c.proofs.Passing.{MembersRead, member-passed, members-read, named-as}
use Rattle.jiter_c.proofs.Walks.{MembersTo, member-not_refused, members-begin, members-end, members-go_on, members-less}
use Rattle.jiter_c.proofs.Walks.{members-not_refused, named-given, next_key-not_refused, passed-on}
use Rattle.jiter_c.proofs.Walks.{refused-after, seen-refused, stays, unless-memory, where-memory}
use Rattle.jiter_c.proofs.parts.last_member.Goals as goal
use Rattle.jiter_c.proofs.parts.last_member.Goals.{else-same, then-same}

pub returns-in_err-next_object-clause-led : goal.returns-in_err-next_object-clause-led
returns-in_err-next_object-clause-led c = λ b e ms h.
    let left = rw c.in_err-next_object.was at c.next_object.follows.holds-at-none in
    unless-memory c.from_residual.result _ _ c.from_residual.ensures.1
    (λ bytes. absurd (members-not_refused c.args.jiter.now b e ms h _ _ _
    (seen-refused key_bytes _ _ _ _ (left.value bytes))))

pub returns-in_err-next_object-clause-refusal : goal.returns-in_err-next_object-clause-refusal
returns-in_err-next_object-clause-refusal c =
    let s = c.args.jiter.now in
    let s1 = c.next_object.follows.lender-at-none in
    let left = rw c.in_err-next_object.was at c.next_object.follows.holds-at-none in
    let is = c.from_residual.ensures.1 in
    unless-memory c.from_residual.result _ _ is
    (λ bytes. passed-on (λ e. RefusedAfter s (cause_of e.error_type) e.index s1.position) c.from_residual.result _ is
    (refused-after s s s1 _ _ (stays s s1 left.moves) left.moves
    (Refuses.at_object whole (seen-refused key_bytes _ _ _ _ (left.value bytes)))))

pub loop-named-init : goal.loop-named-init
loop-named-init c =
    let s = c.args.jiter.now in
    let name = c.args.name.now in
    let key = c.in_ok-next_object.field-0 in
    let left = rw c.in_ok-next_object.was at c.next_object.follows.holds-at-none in (
      members-begin s _ name _ left.moves
          (named-given (λ x. x.now) name key _ _ _ left.value c.is_named-named.ensures),
      (
        option_map (λ x. x.now) key,
        named-as (λ x. x.now) name key _ c.is_named-named.ensures,
        MembersPassed.first _ _ left.value,
      ),
    )

pub returns-in_err-start-clause-moves : goal.returns-in_err-start-clause-moves
returns-in_err-start-clause-moves c =
    moves-on c.args.jiter.now _ _ c.loop-named.invariant.0.moves c.in_err-start.ensures.reads.moves

pub returns-in_err-start-clause-led : goal.returns-in_err-start-clause-led
returns-in_err-start-clause-led c = λ b e ms h.
    let inv = (rw c.in-Some.is at c.loop-named.invariant).0 in
    absurd (member-not_refused c.args.jiter.now c.loop-named.jiter c.args.name.now c.in-Some.same c.loop-named.place inv
    b e ms h _ _ _ c.in_err-start.ensures.reads.value)

pub returns-in_err-start-clause-refusal : goal.returns-in_err-start-clause-refusal
returns-in_err-start-clause-refusal c =
    let s = c.args.jiter.now in
    let s1 = c.pass.new.jiter in
    let is = c.from_residual-in_err-start.ensures.1 in
    unless-memory c.from_residual-in_err-start.result _ _ is
    (λ bytes. passed-on (λ e. RefusedAfter s (cause_of e.error_type) e.index s1.position)
    c.from_residual-in_err-start.result _ is
    (refused-after s c.loop-named.jiter s1 _ _ c.loop-named.invariant.0.moves c.in_err-start.ensures.reads.moves
    (Refuses.at_skip c.in_err-start.ensures.reads.value)))

pub returns-in_err-start-clause-memory : goal.returns-in_err-start-clause-memory
returns-in_err-start-clause-memory c =
    where-memory (λ e. WantsMemory c.args.jiter.now.text e.index) c.from_residual-in_err-start.result _
    c.from_residual-in_err-start.ensures.1 (λ m. absurd (c.in_err-start.ensures.reads.memory m))

pub returns-in_err-start-clause-place : goal.returns-in_err-start-clause-place
returns-in_err-start-clause-place c =
    where-memory (λ e. c.pass.new.jiter.position ≡ e.index) c.from_residual-in_err-start.result _
    c.from_residual-in_err-start.ensures.1 (λ m. absurd (c.in_err-start.ensures.reads.memory m))

pub returns-in_err-next_key-clause-moves : goal.returns-in_err-next_key-clause-moves
returns-in_err-next_key-clause-moves c =
    let left = rw c.in_err-next_key.was at c.next_key.follows.holds-at-none in
    moves-on c.args.jiter.now _ _ c.loop-named.invariant.0.moves
    (moves-on c.loop-named.jiter _ _ c.in_ok-start.ensures.reads.moves left.moves)

pub returns-in_err-next_key-clause-led : goal.returns-in_err-next_key-clause-led
returns-in_err-next_key-clause-led c = λ b e ms h.
    let inv = (rw c.in-Some.is at c.loop-named.invariant).0 in
    let left = rw c.in_err-next_key.was at c.next_key.follows.holds-at-none in
    let pass = c.in_ok-start.ensures in
    unless-memory c.from_residual-in_err-next_key.result _ _ c.from_residual-in_err-next_key.ensures.1
    (λ bytes. absurd (next_key-not_refused c.args.jiter.now c.loop-named.jiter c.args.name.now c.in-Some.same
    c.loop-named.place inv c.pass.new.jiter pass.reads.moves pass.reads.value b e ms h _ _ _
    (seen-refused key_bytes _ _ _ _ (left.value bytes))))

pub returns-in_err-next_key-clause-refusal : goal.returns-in_err-next_key-clause-refusal
returns-in_err-next_key-clause-refusal c =
    let s = c.args.jiter.now in
    let s2 = c.next_key.follows.lender-at-none in
    let left = rw c.in_err-next_key.was at c.next_key.follows.holds-at-none in
    let is = c.from_residual-in_err-next_key.ensures.1 in
    unless-memory c.from_residual-in_err-next_key.result _ _ is
    (λ bytes. passed-on (λ e. RefusedAfter s (cause_of e.error_type) e.index s2.position)
    c.from_residual-in_err-next_key.result _ is
    (refused-after s c.pass.new.jiter s2 _ _
    (moves-on s _ _ c.loop-named.invariant.0.moves c.in_ok-start.ensures.reads.moves) left.moves
    (Refuses.at_key whole (seen-refused key_bytes _ _ _ _ (left.value bytes)))))

pub returns-in_err-next_key-clause-memory : goal.returns-in_err-next_key-clause-memory
returns-in_err-next_key-clause-memory c =
    let s = c.args.jiter.now in
    let m = moves-on s _ _ c.loop-named.invariant.0.moves c.in_ok-start.ensures.reads.moves in
    let text : c.pass.new.jiter.text ≡ s.text = ap (λ (v : ReaderState). v.text) m.same in
    where-memory (λ e. WantsMemory s.text e.index) c.from_residual-in_err-next_key.result _
    c.from_residual-in_err-next_key.ensures.1
    (λ memory. subst (λ t. WantsMemory t c.in_err-next_key.field-0.0.index) text
    (c.in_err-next_key.ensures.reads.1.memory memory).1.1)

pub loop-named-smaller : goal.loop-named-smaller
loop-named-smaller c =
    let inv = (rw c.in-Some.is at c.loop-named.invariant).0 in
    let left = rw c.in_ok-next_key.was at c.next_key.follows.holds-at-none in
    let pass = c.in_ok-start.ensures in
    members-less c.args.jiter.now c.loop-named.jiter c.args.name.now c.in-Some.same c.loop-named.place inv
    c.pass.new.jiter pass.reads.moves pass.reads.value _ left.moves

pub loop-named-preserved : goal.loop-named-preserved
loop-named-preserved c =
    let both = rw c.in-Some.is at c.loop-named.invariant in
    let left = rw c.in_ok-next_key.was at c.next_key.follows.holds-at-none in
    let pass = c.in_ok-start.ensures in
    let old = c.loop-named.place in
    let start = c.in_ok-start.start in
    let place : c.if-same.place ≡ (if c.in-Some.same then Some start else old) = elim c.if-same.branch [
      | then-same w ↦ w.place-is ∙ sym (ap (λ b. if b then Some start else old) w.if-same.true)
      | else-same w ↦ w.place-is ∙ sym (ap (λ b. if b then Some start else old) w.if-same.false)
    ] in
    let s = c.args.jiter.now in
    let s2 = c.next_key.follows.lender-at-none in
    let name = c.args.name.now in
    let key = c.in_ok-next_key.field-0 in
    let named = c.is_named-named-in-Some.result in
    subst (λ p. MembersTo s s2 name named p × MembersRead s s2 name named p) (sym place) (
      members-go_on s c.loop-named.jiter name c.in-Some.same old both.0 c.pass.new.jiter pass.reads.moves
          pass.reads.value start pass.place _ _ left.moves
          (named-given (λ x. x.now) name key _ _ _ left.value c.is_named-named-in-Some.ensures),
      (
        option_map (λ x. x.now) key,
        named-as (λ x. x.now) name key _ c.is_named-named-in-Some.ensures,
        member-passed s c.loop-named.jiter c.pass.new.jiter s2 both.0.moves pass.reads.moves pass.reads.value name
            c.in-Some.same old start _ both.1.0 both.1.1 both.1.2 pass.place left.value,
      ),
    )

pub returns-clause-moves : goal.returns-clause-moves
returns-clause-moves c = c.loop-named.invariant.0.moves

pub returns-clause-led : goal.returns-clause-led
returns-clause-led c =
    let inv = (rw c.in_default.is at c.loop-named.invariant).0 in
    members-end c.args.jiter.now c.loop-named.jiter c.args.name.now c.loop-named.place inv

pub returns-clause-walked : goal.returns-clause-walked
returns-clause-walked c =
    let both = rw c.in_default.is at c.loop-named.invariant in
    members-read c.args.jiter.now c.loop-named.jiter c.args.name.now c.loop-named.place both.1
