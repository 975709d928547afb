use Rattle.std.proofs.Common.{ap, arith, length, refl, subst, ◌++◌, ◌∙◌, ◌≡◌}
use Rattle.std.proofs.lemmas.Grind.{put_two}
use Rattle.std.proofs.lemmas.List.{get_or_read}
use Rattle.std.specs.Fmt.{HasWritten}
use Rattle.std.specs.List.{flat_map}
use Rattle.std.specs.Prelude.{codes, decimal, slice_index_or}
use Rattle.cs_plan.specs.Lists.{recipe_at, says_by, state_line, state_lines}
use Rattle.cs_plan.specs.Plans.{places_below, set_in}
use Rattle.cs_plan.specs.Scenes.{micros_of, says_of}
use Rattle.cs_plan.specs.Texts.{recipe_text}
use Rattle.cs_plan.specs.declared.recipe.Recipe.TheVariants.{Prefix}
use Rattle.cs_plan.proofs.Lines.{lines_more}
use Rattle.cs_plan.proofs.listing.StateLinesDisplay.fmt.Goals as goal

pub loop-number-preserved : goal.loop-number-preserved
loop-number-preserved g c = λ plain.
    let before = c.loop-number.invariant plain in
    let scene = c.args.self.now.scene.now in
    let recipes = c.recipes-recipe-items.result.now in
    let n = c.loop-number.number-counter in
    let recipe = c.recipe-item.result in
    let planned : recipes ≡ scene.plan = c.recipes-recipe-items.ensures ∙ c.plan.ensures.value in
    let recipe_is : recipe ≡ recipe_at scene n =
    get_or_read recipes n recipe c.loop-number-test.true c.recipe-item.is (Prefix 0) ∙ ap (λ plan. slice_index_or plan n (Prefix 0))
    planned in
    let ops_are : c.ops-ops.result.now ≡ (micros_of scene).ops = c.ops-ops.ensures.value ∙ ap (λ m. m.ops) c.micros.ensures in
    let says_is : c.says_in-says.result ≡ says_by scene recipe =
    c.says_in-says.ensures ∙ ap (λ ops. says_of ops (set_in c.order.result.now recipe)) ops_are ∙ ap
    (λ order. says_of (micros_of scene).ops (set_in order recipe)) c.order.ensures.value in
    put_two _ _ _ _ _ _ _ before (c.in_ok-write.ensures.writes before.plain refl)
    (ap (λ says. flat_map (state_line scene) (places_below n)
    ++ (codes "state " ++ (decimal n ++ (codes " " ++ (recipe_text recipe ++ (codes " says " ++ (decimal says ++ codes "\n")))))))
    says_is
    ∙ ap (λ r. flat_map (state_line scene) (places_below n)
    ++ (codes "state "
    ++ (decimal n ++ (codes " " ++ (recipe_text r ++ (codes " says " ++ (decimal (says_by scene r) ++ codes "\n"))))))) recipe_is
    ∙ lines_more (state_line scene) n)

pub returns-clause-writes : goal.returns-clause-writes
unfolding state_lines
returns-clause-writes g c = λ plain _.
    let scene = c.args.self.now.scene.now in
    let planned : c.recipes-recipe-items.result.now ≡ scene.plan = c.recipes-recipe-items.ensures ∙ c.plan.ensures.value in
    let long : length c.recipes-recipe-items.result.now ≡ length scene.plan = ap length planned in
    let all : c.loop-number.number-counter ≡ length scene.plan = omega (arith, long) in
    subst (λ n. HasWritten g.W.Write.write_str_gives c.args.f.now (flat_map (state_line scene) (places_below n)) c.loop-number.f) all
    (c.loop-number.invariant plain)
