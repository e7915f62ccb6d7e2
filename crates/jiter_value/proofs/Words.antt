-- The words that the proofs of this crate cite, passed on from one place. Declares nothing.
pub use Rattle.jiter_scan.proofs.Choices.{if_both, if_case}
pub use Rattle.jiter_scan.proofs.NumberLaws.{number_at-within}
pub use Rattle.jiter_scan.proofs.Scanning.{ScalarWithin}
pub use Rattle.jiter_scan.specs.Kind.{Kind, duplicate_key, fault_kind, invalid_code_point, recursion_limit}
pub use Rattle.jiter_scan.specs.Number.{Number, integer}
pub use Rattle.jiter_scan.specs.NumberReading.{number_at}
pub use Rattle.jiter_scan.specs.PartialMode.{is_active}
pub use Rattle.jiter_scan.specs.Quoted.{quoted_byte}
pub use Rattle.jiter_scan.specs.Scanned.{FaultAt, Scanned, failed, taken}
pub use Rattle.jiter_scan.specs.declared.errors.JsonError.{JsonError}
pub use Rattle.jiter_scan.specs.declared.partial_mode.PartialMode.{PartialMode}
pub use Rattle.jiter_scan.specs.declared.partial_mode.PartialMode.TheVariants.{Off, On, TrailingStrings}
pub use Rattle.jiter_steps.proofs.Calls.FastAnswers.{plain-utf8}
pub use Rattle.jiter_steps.proofs.Calls.Looks.{look-plain}
pub use Rattle.jiter_steps.proofs.Calls.Resumed.{if_forgiven-no, resume-fault}
pub use Rattle.jiter_steps.proofs.Cut.CutLaw.{answer_in-cut}
pub use Rattle.jiter_steps.proofs.Cut.Prefixes.{EndsEarly}
pub use Rattle.jiter_steps.proofs.Fault.Alive.{alive}
pub use Rattle.jiter_steps.proofs.Grammar.Documents.{one_node}
pub use Rattle.jiter_steps.proofs.Grammar.StringLaws.{string_at-within}
pub use Rattle.jiter_steps.proofs.Reading.Bounds.{Within}
pub use Rattle.jiter_steps.proofs.Reading.Values.{Advances}
pub use Rattle.jiter_steps.proofs.Reading.WholeTexts.{whole-is}
pub use Rattle.jiter_steps.specs.Answer.{answer, answer_in, seen_as, value_form, whole_trees}
pub use Rattle.jiter_steps.specs.Blank.{past_blanks}
pub use Rattle.jiter_steps.specs.Cut.{IsBegunContainer, cut}
pub use Rattle.jiter_steps.specs.FirstFault.{CanBeCompleted, can_go_on}
pub use Rattle.jiter_steps.specs.Frames.{Frame, object_in, parts_from, resolve_step, resume}
pub use Rattle.jiter_steps.specs.Literal.{literal_at, literal_tree, start_of}
pub use Rattle.jiter_steps.specs.Node.{IsCutContainer, Node, end, value_of}
pub use Rattle.jiter_steps.specs.Parse.{Returns}
pub use Rattle.jiter_steps.specs.Read.{Container, Reading, Rules, done, fault, if_begun, if_last, scalar_at, to_end, value_at, whole_answer}
unfoldable pub use Rattle.jiter_steps.specs.Read.{prefix_answer}
pub use Rattle.jiter_steps.specs.ReadError.{WhereRefused}
pub use Rattle.jiter_steps.specs.Step.{colon, container_first, more, object_colon, opening, step, value_first}
pub use Rattle.jiter_steps.specs.StringDecoder.{text_view}
pub use Rattle.jiter_steps.specs.StringReading.{string_at, text_form, whole}
pub use Rattle.jiter_steps.specs.Tree.{Items, Members, Text, Tree, array, boolean, float, int, item, items_of, member, members_of, no_items, no_members, null, object, string}
pub use Rattle.jiter_steps.specs.Unique.{own_bytes, unique_answer_in}
pub use Rattle.jiter_steps.specs.declared.parse.ContainerKind.{ContainerKind}
pub use Rattle.jiter_steps.specs.declared.parse.Literal.{Literal}
pub use Rattle.jiter_steps.specs.declared.parse.Start.{Start}
pub use Rattle.jiter_steps.specs.declared.read_error.ReadError.{ReadError}
pub use Rattle.jiter_value.specs.Access.{item_of, last_such}
pub use Rattle.jiter_value.specs.DuplicateKeys.{AreTaken, HasKeys, IsNowhere, IsPlaceOf, IsUpToDate, has_text}
unfoldable pub use Rattle.jiter_value.specs.DuplicateKeys.{mark_on}
pub use Rattle.jiter_value.specs.Owned.{HoldSame, as_it_is, owned_member, owned_text, owned_tree, tree_as}
pub use Rattle.jiter_value.specs.Parses.{AnswersBy, Parses, as_read, reading_as}
pub use Rattle.jiter_value.specs.ParsesUnique.{refusing_repeats}
pub use Rattle.jiter_value.specs.Pointer.{is_slash, pointed, token_of}
pub use Rattle.jiter_value.specs.QuotedKeys.{quoted_from}
pub use Rattle.jiter_value.specs.Reading.{GivesWhole, IsErrorOf}
pub use Rattle.jiter_value.specs.Scratch.{HoldsNothing}
pub use Rattle.jiter_value.specs.Settings.{TextPolicy, answer_as, answer_by, answer_with, forgives, borrowed, borrowed_unique, rules_as}
pub use Rattle.jiter_value.specs.Size.{after_size, frames_size, held, held_in, inside_size_in, parts_size, size, value_size}
pub use Rattle.jiter_value.specs.Stacks.{HaveBases, HaveKeyBase, HaveKeys, HavePartBase, IsFree, LeavesKeys, Member, PartTree, Stands, StandsAtKey, after, built, container_fault_in, frames, frames_below, from_value, key_in, keys_of, denotes, member_view, parts_above, refused_in, slot_in}
pub use Rattle.jiter_value.specs.Turns.{Fails, GoesOn, HasReached, IsKeyRead, IsResolved, IsWithin, MayGrowFor, Proceeds, Reaches, work_left, outcome}
pub use Rattle.jiter_value.specs.UniqueKeys.{GivesUniqueWhole, WhereUniqueRefused, has_key, object_has_key}
pub use Rattle.jiter_value.specs.Value.{Answers, MayGrow, MayGrowAs, MayGrowAt, MayGrowBy, member_views, view, views}
pub use Rattle.jiter_value.specs.declared.parse.settings.Settings.{Settings}
pub use Rattle.jiter_value.specs.declared.parse.stacks.OpenContainer.{OpenContainer}
pub use Rattle.jiter_value.specs.declared.parse.stacks.Slot.{Slot}
pub use Rattle.jiter_value.specs.declared.parse.stacks.Stacks.{Stacks}
pub use Rattle.jiter_value.specs.declared.parse.stacks.State.{State}
pub use Rattle.jiter_value.specs.declared.parse.turns.unique.Interrupted.{Interrupted}
pub use Rattle.jiter_value.specs.declared.value.JsonValue.{Array, JsonValue, Object}
pub use Rattle.std.proofs.Common.{All, Bool, Decides, Err, Global, IfErr, IfOk, IsCharBoundary, List, MatchResult, None, Ok, OnOk, Option, Result, Some, Vec, [], ap, append_assoc, ap₂, arith, bytes_eq, cond, drop, eqb, false, flat_map, get_or, if◌then◌else◌, inl, inr, length, length-append, length-drop, length-take, length-take-le, map, nat_lt, not, option_and_then, option_map, pos, refl, reverse, rules, slice_get, slice_index, slice_range, slice_set, string_bytes, subst, suc, sym, take, take-take, take_all, true, true≢false, zero, ℕ, ℤ, ◌++◌, ◌+◌, ◌-◌, ◌<◌, ◌^◌, ◌||◌, ◌↔◌, ◌∙◌, ◌∷◌, ◌≡◌, ◌≢◌, ◌≤◌, ◌⊎◌}
pub use Rattle.std.proofs.Math.Seq.{get_or-append_seam, take-append_seam}
pub use Rattle.std.proofs.lemmas.Bool.{false_from_ne_true}
pub use Rattle.std.proofs.lemmas.List.{at_drop_more, length-map, length-reverse, map_push, reverse-append, take-append-le, take_more}
pub use Rattle.std.proofs.lemmas.Option.{slice_get_read, slice_get_within}
pub use Rattle.std.proofs.lemmas.Result.{IfOk-weaker, err_from_is_err_and, on_ok_weaker}
pub use Rattle.std.proofs.lemmas.Slice.Eq.{bytes_eq-Decides}
pub use Rattle.std.proofs.lemmas.Str.{IsCharBoundary-start}
pub use Rattle.std.specs.List.{slice_split}
pub use Rattle.std.specs.declared.borrow.CowStr.{CowStr}
