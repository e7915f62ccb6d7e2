use Rattle.jiter_value.proofs.value.+drop.Given as goal

abbrev pub invariant-drop_items-loop-item : goal.invariant-drop_items-loop-item
invariant-drop_items-loop-item l = goal.no_deeper-drop_items-loop-item l

abbrev pub decreases-drop_items-loop-item : goal.decreases-drop_items-loop-item
decreases-drop_items-loop-item l = goal.left-drop_items-loop-item l

abbrev pub invariant-drop_members-loop-key : goal.invariant-drop_members-loop-key
invariant-drop_members-loop-key l = goal.no_deeper-drop_members-loop-key l

abbrev pub decreases-drop_members-loop-key : goal.decreases-drop_members-loop-key
decreases-drop_members-loop-key l = goal.left-drop_members-loop-key l
