-- The files that micro-operations change.
use Rattle.std.specs.Prelude.{ℕ, ◌+◌, ◌==◌, max, fold, Bool, false, List, Option, None, Some}
use Rattle.std.specs.List.{filter, list_any}
use Rattle.cs_micro.specs.declared.micro_op.MicroOp.{MicroOp}
use Rattle.cs_plan.specs.Plans.{places_below}
use Rattle.cs_same_states.specs.Reaching.{changed_file}

abbrev pub is_same_file : ℕ → Option ℕ → Bool
is_same_file file None = false
is_same_file file (Some other) = other == file

-- some micro-operation changes the file
abbrev pub is_changed : List MicroOp → ℕ → Bool
is_changed ops file = list_any (λ op. is_same_file file (changed_file op)) ops

abbrev pub number_after : Option ℕ → ℕ
number_after None = 0
number_after (Some file) = file + 1

-- one more than the greatest number of a file that is changed
abbrev pub file_end : List MicroOp → ℕ
file_end ops = fold (λ end op. max (number_after (changed_file op)) end) 0 ops

-- the files that are changed, in the order of their numbers
unfoldable pub changed_files : List MicroOp → List ℕ
changed_files ops = filter (is_changed ops) (places_below (file_end ops))
