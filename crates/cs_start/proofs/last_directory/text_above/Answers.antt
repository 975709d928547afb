use Rattle.std.proofs.Common.{◌≡◌, ◌++◌, ◌∷◌, ℕ, List, take, drop, lit<, ap, subst, sym, ◌∙◌}
use Rattle.std.proofs.lemmas.List.{take-append-drop}
use Rattle.std.proofs.lemmas.Str.Pattern.{drop_at_char}
use Rattle.std.specs.Str.Pattern.{HasCharAt}
use Rattle.cs_names.specs.Laws.{IsLegalName-name_in}
use Rattle.cs_names.specs.Legal.{IsLegalName}
use Rattle.cs_start.proofs.Spelling.{above-push, if_some}
use Rattle.cs_start.proofs.last_directory.text_above.Goals as goal

-- a text that is cut at a slash
cut_at : (text above name : List ℕ) (i j : ℕ) → HasCharAt 47 text i j → above ≡ take i text → name ≡ drop j text → text ≡ above ++ 47 ∷ name
cut_at text above name i j at front back =
    sym (take-append-drop i text) ∙ (λ k. sym front k ++ drop_at_char 47 text i j at (lit< tt) k)
    ∙ ap (λ (last : List ℕ). above ++ 47 ∷ last) (sym back)

pub returns-in-Ok-clause-above : goal.returns-in-Ok-clause-above
returns-in-Ok-clause-above c =
    let text = c.args.text.now in
    let above = c.in_ok-above.above.now in
    let name = c.in_ok-above.name.now in
    let found = c.in_ok-above.ensures.cases in
    let cut : text ≡ above ++ 47 ∷ name = cut_at text above name found.0 found.1 found.2.1 found.3 found.4 in
    let legal : IsLegalName name = subst IsLegalName c.as_bytes.ensures.value
    (IsLegalName-name_in c.as_bytes.result.now c.in-Ok.ensures.1) in
    if_some c.of_entry.result _ (λ q is p spells. above-push text above name p q cut (sym c.of_entry.ensures ∙ is) legal spells)
