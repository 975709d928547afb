-- A rule by its number: a letter, and the rule's place among those of the letter.
use Rattle.std.specs.Prelude.{ℕ, ◌+◌, ◌*◌, ◌-◌, ◌==◌, if◌then◌else◌, List, [], ◌∷◌, length}
use Rattle.std.specs.Prelude.{slice_index, nat_le, Option, None}
use Rattle.std.specs.List.{slice_get}
use Rattle.cs_names.specs.declared.rule_id.RuleId.{RuleId}
use Rattle.cs_names.specs.declared.rule_id.RuleId.TheVariants.{S1, S2, S3, S4, S5, L1, A1, A2, A3}
use Rattle.cs_names.specs.declared.rule_id.RuleId.TheVariants.{A4, A5, A6, K1, K2, K3, K4, K5, K6}
use Rattle.cs_names.specs.declared.rule_id.RuleId.TheVariants.{K7, K8, O1, O2, O3, O4, O5, O6, O7}
use Rattle.cs_names.specs.declared.rule_id.RuleId.TheVariants.{O8, O9, O10, C1, C2, C3, C4, C5, C6}
use Rattle.cs_names.specs.declared.rule_id.RuleId.TheVariants.{C7, C8, C9, C10, G1, G2, G3, G4, G5}
use Rattle.cs_names.specs.declared.rule_id.RuleId.TheVariants.{E1, E2, E3, E4, M1, M2, M3, M4, M5}
use Rattle.cs_names.specs.declared.rule_id.RuleId.TheVariants.{N1, H1, H2, Q1, Q2, Q3, Q4, Q5, Q6}
use Rattle.cs_names.specs.declared.rule_id.RuleId.TheVariants.{Q7, Q8, Q9, Q10, Q11, Q12, Q13, Q14}

-- the rules of a letter, by their numbers
unfoldable pub rules_of : ℕ → List RuleId
rules_of letter =
    if letter == 83 then S1 ∷ S2 ∷ S3 ∷ S4 ∷ S5 ∷ []
    else if letter == 76 then L1 ∷ []
    else if letter == 65 then A1 ∷ A2 ∷ A3 ∷ A4 ∷ A5 ∷ A6 ∷ []
    else if letter == 75 then K1 ∷ K2 ∷ K3 ∷ K4 ∷ K5 ∷ K6 ∷ K7 ∷ K8 ∷ []
    else if letter == 79 then O1 ∷ O2 ∷ O3 ∷ O4 ∷ O5 ∷ O6 ∷ O7 ∷ O8 ∷ O9 ∷ O10 ∷ []
    else if letter == 67 then C1 ∷ C2 ∷ C3 ∷ C4 ∷ C5 ∷ C6 ∷ C7 ∷ C8 ∷ C9 ∷ C10 ∷ []
    else if letter == 71 then G1 ∷ G2 ∷ G3 ∷ G4 ∷ G5 ∷ []
    else if letter == 69 then E1 ∷ E2 ∷ E3 ∷ E4 ∷ []
    else if letter == 77 then M1 ∷ M2 ∷ M3 ∷ M4 ∷ M5 ∷ []
    else if letter == 78 then N1 ∷ []
    else if letter == 72 then H1 ∷ H2 ∷ []
    else if letter == 81
    then Q1 ∷ Q2 ∷ Q3 ∷ Q4 ∷ Q5 ∷ Q6 ∷ Q7 ∷ Q8 ∷ Q9 ∷ Q10 ∷ Q11 ∷ Q12 ∷ Q13 ∷ Q14 ∷ []
    else []

-- the place of a rule among those of its letter: of a digit and a space, or of two digits
unfoldable pub place_in_letter : ℕ → ℕ → ℕ
place_in_letter first second = if second == 32 then first - 49 else (first * 10 + second) - 529

-- the one rule whose text it may be
abbrev pub rule_numbered : List ℕ → Option RuleId
rule_numbered text =
    if nat_le 3 (length text)
    then slice_get (rules_of (slice_index text 0))
    (place_in_letter (slice_index text 1) (slice_index text 2)) else None
