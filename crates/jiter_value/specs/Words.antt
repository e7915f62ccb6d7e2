-- The words that the contracts of this crate cite, passed on from one place. Declares nothing.
pub use Rattle.jiter_scan.specs.Kind.{fault_kind, is_memory, kind_text}
pub use Rattle.jiter_scan.specs.NumberDecoder.{number_view}
pub use Rattle.jiter_scan.specs.PartialMode.{is_active}
pub use Rattle.jiter_scan.specs.Position.{at_index, description_text, position_of}
pub use Rattle.jiter_scan.specs.Quoted.{quoted, quoted_byte}
pub use Rattle.jiter_scan.specs.Scan.{IsLook, scan_stop}
pub use Rattle.jiter_scan.specs.Scanned.{taken}
pub use Rattle.jiter_steps.specs.Answer.{answer, answer_in}
pub use Rattle.jiter_steps.specs.Blank.{past_blanks}
pub use Rattle.jiter_steps.specs.Cut.{IsBegunContainer, cut}
pub use Rattle.jiter_steps.specs.Found.{step_of}
pub use Rattle.jiter_steps.specs.Literal.{literal_tree, start_of}
pub use Rattle.jiter_steps.specs.Node.{IsDocument, Node, nesting_limit, number_tree, value_of}
pub use Rattle.jiter_steps.specs.Parse.{Returns, NeverMovesBack}
pub use Rattle.jiter_steps.specs.Read.{done, fault, value_at}
pub use Rattle.jiter_steps.specs.ReadError.{WhereRefused}
pub use Rattle.jiter_steps.specs.Step.{colon, container_first, more, opening, step}
pub use Rattle.jiter_steps.specs.StringDecoder.{text_view}
pub use Rattle.jiter_steps.specs.StringReading.{string_at, whole}
pub use Rattle.jiter_steps.specs.Tree.{Tree, array, members_of, object, string}
pub use Rattle.jiter_steps.specs.Unique.{IsUniqueDocument, unique_answer_in}
pub use Rattle.jiter_steps.specs.declared.parse.Start.{Start}
pub use Rattle.jiter_value.specs.Access.{boolean_in, int_in, is_null_tree, item_at, item_of, items_in, last_such, member_named, members_in, number_text_in, string_in}
pub use Rattle.jiter_value.specs.DuplicateKeys.{Adds, HasKeys, IsKeyOf, IsNoKeyOf, IsNowhere, IsPlaceOf, IsSomewhere, IsUpToDate, bucket_of, has_text, hash_of}
pub use Rattle.jiter_value.specs.Equality.{code, same_content}
pub use Rattle.jiter_value.specs.Machine.{held_by, position_in, IsOver, IsReadingOn}
pub use Rattle.jiter_value.specs.Owned.{HoldSame, HoldsBorrowedTextOrPart, HoldsOwnedTextOrPart, HoldsTextOrPart, IsOwnedAnswer, OwnedMayGrow, ReadHolds, owned_member, owned_text, owned_tree, tree_as}
pub use Rattle.jiter_value.specs.Parses.{AnswersBy, Parses, as_read, reading_as}
pub use Rattle.jiter_value.specs.ParsesUnique.{ParsesUnique, refusing_repeats}
pub use Rattle.jiter_value.specs.Pointer.{is_slash, item_spelled, part_spelled, pointed, pointed_by, token_byte, token_of}
pub use Rattle.jiter_value.specs.QuotedKeys.{EndsAtAscii, quoted_from}
pub use Rattle.jiter_value.specs.Reading.{GivesWhole, IsErrorOf}
pub use Rattle.jiter_value.specs.Scratch.{HoldsNothing, IsCleared}
pub use Rattle.jiter_value.specs.Settings.{TextPolicy, answer_as, each, forgives, borrowed_unique, rules, rules_as, borrowed}
pub use Rattle.jiter_value.specs.Size.{after_size, inside_size, size, value_size}
pub use Rattle.jiter_value.specs.Stacks.{HasRoom, HasRoomIn, HaveKeys, HoldsSame, IsFree, LeavesKeys, Member, Stands, StandsAtKey, StandsInside, after, base_of, container_ends, container_fault, empty_tree, from_value, keys_of, member_view, part_of, resume_with, slot_in, without_root, slot_of}
pub use Rattle.jiter_value.specs.StringStorage.{IsBorrowedAt, IsNumberAt, LieAt}
pub use Rattle.jiter_value.specs.Turns.{Follows, HasTakenKey, IsAtKey, IsAtValue, IsKeyRead, IsPutAt, IsReady, IsRefusedAt, IsResolved, Proceeds, Turned, work_left, outcome, GoesOn, HasGone, HasTurned, MayGrowFor, turns_at_key}
pub use Rattle.jiter_value.specs.UniqueErrors.{IsDuplicateKey, IsMemoryRefused, unique_kind}
pub use Rattle.jiter_value.specs.UniqueKeys.{GivesUnique, GivesUniqueWhole, HasStopped, IsUniqueErrorOf, WhereUniqueRefused, fault_at_key, fault_of, has_key, innermost_base, object_has_key}
pub use Rattle.jiter_value.specs.Value.{Answers, BeginsContainer, MayGrow, MayGrowAt, MayGrowBy, member_views, view, views}
pub use Rattle.jiter_value.specs.declared.parse.settings.Settings.{Settings as SettingsView}
pub use Rattle.jiter_value.specs.declared.value.JsonValue.{JsonValue as JsonValueView}
pub use Rattle.jiter_value.specs.declared.value.JsonValue.TheVariants.{Int}
pub use Rattle.std.specs.Cmp.{on_equiv, on_per, partial_equiv_from_equiv}
pub use Rattle.std.specs.Cmp.Lexicographic.{nat_list_eq_equiv}
pub use Rattle.std.specs.Fmt.{WritesOnOk}
pub use Rattle.std.specs.List.{slice_split}
pub use Rattle.std.specs.declared.alloc.Global.{Global}
pub use Rattle.std.specs.declared.borrow.CowStr.{CowStr as CowStrView}
