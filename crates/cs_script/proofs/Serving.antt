-- The world that a script begins with.
use Rattle.std.proofs.Common.{◌≡◌, ℕ, ◌+◌, zero, suc, Bool, true, false, cond, not, List, ◌∷◌, ◌++◌, length, refl, ap, ◌∙◌, arith}
use Rattle.std.proofs.lemmas.List.{append-nil}
use Rattle.std.specs.Prelude.{nat_lt, replicate, slice_set}
use Rattle.cs_journal.specs.Runs.{RunOf}
use Rattle.cs_plan.specs.Scenes.{Scene}
use Rattle.cs_registry.specs.Publishing.{with_published}
use Rattle.cs_registry.specs.Registries.{Registry, is_published}
use Rattle.cs_users.specs.Rows.{Row}
use Rattle.cs_world.specs.Marks.{refuses_keeping, refuses_state}
use Rattle.cs_world.specs.Publishing.{publish_step}
use Rattle.cs_world.specs.Steps.{by_registry, IsStep}
use Rattle.cs_world.specs.Worlds.{World, new_world}
use Rattle.cs_world.specs.declared.reply.Reply.{Reply}
use Rattle.cs_world.specs.declared.reply.Reply.TheVariants.{Published, NotPublished}
use Rattle.cs_world.specs.declared.reply.StateFault.TheVariants.{NoSuchState, Twice, Memory}
use Rattle.cs_world.specs.declared.step.Step.TheVariants.{Publish}
use Rattle.cs_script.specs.Scripted.{served_world, with_first}

-- ---- one state more

abbrev chosen : Registry RunOf → ℕ → Bool → Bool → Bool → Bool → Reply × Registry RunOf
chosen r number there refused taken full =
    cond (not there) (NotPublished NoSuchState, r)
    (cond refused (NotPublished Memory, r)
    (cond taken (NotPublished Twice, r) (cond full (NotPublished Memory, r) (Published, with_published r number))))

chosen_is : (w w' : World) (number : ℕ) (there refused taken full : Bool)
    → (Published, w') ≡ by_registry w (chosen w.registry number there refused taken full) → w' ≡ record w {
      registry = with_published w.registry number;
    }
chosen_is w w' number false refused taken full e =
    (let said : Published ≡ NotPublished NoSuchState = ap (λ (x : Reply × World). x.0) e in absurd (cc))
chosen_is w w' number true true taken full e =
    (let said : Published ≡ NotPublished Memory = ap (λ (x : Reply × World). x.0) e in absurd (cc))
chosen_is w w' number true false true full e =
    (let said : Published ≡ NotPublished Twice = ap (λ (x : Reply × World). x.0) e in absurd (cc))
chosen_is w w' number true false false true e =
    (let said : Published ≡ NotPublished Memory = ap (λ (x : Reply × World). x.0) e in absurd (cc))
chosen_is w w' number true false false false e = ap (λ (x : Reply × World). x.1) e

pub one_more : (w w' : World) (number : ℕ) → IsStep w (Publish number) Published w' → w' ≡ record w {
  registry = with_published w.registry number;
}
one_more w w' number step =
    chosen_is w w' number (nat_lt number (length w.registry.scene.plan)) (refuses_state step.0) (is_published w.registry number)
    (refuses_keeping step.0) step.1

-- ---- all states

set_next : (n k : ℕ) → slice_set (replicate n true ++ replicate (suc k) false) n true ≡ replicate (suc n) true ++ replicate k false
set_next zero k = refl
set_next (suc n) k = ap (λ l. true ∷ l) (set_next n k)

-- the first so many are published, and so many aren't
abbrev partly : Scene → List Row → ℕ → ℕ → World
partly scene users n k = record (new_world scene users) {
  registry = record (new_world scene users).registry { published = replicate n true ++ replicate k false };
}

with_first_is : (scene : Scene) (users : List Row) (n k : ℕ) → length scene.plan ≡ n + k
    → with_first (new_world scene users) n ≡ partly scene users n k
with_first_is scene users zero k long = (let all : length scene.plan ≡ k = omega (arith, long) in ap (λ m. record (new_world scene users) {
  registry = record (new_world scene users).registry { published = replicate m false };
}) all)
with_first_is scene users (suc n) k long =
    let before = with_first_is scene users n (suc k) (omega (arith, long)) in
    ap (λ (w : World). record w { registry = with_published w.registry n }) before
    ∙ ap (λ (l : List Bool). record (new_world scene users) {
      registry = record (new_world scene users).registry { published = l };
    }) (set_next n k)

pub with_all : (scene : Scene) (users : List Row) (count : ℕ) → count ≡ length scene.plan
    → with_first (new_world scene users) count ≡ served_world scene users
with_all scene users count all =
    ap (with_first (new_world scene users)) all
    ∙ with_first_is scene users (length scene.plan) 0 (omega arith)
    ∙ ap (λ (l : List Bool). record (new_world scene users) {
      registry = record (new_world scene users).registry { published = l };
    }) (append-nil (replicate (length scene.plan) true))

-- a world that was made for them, with all its states published
pub served : (scene given : Scene) (users shared : List Row) (count : ℕ) (w w' : World)
    → w' ≡ with_first w count → w ≡ new_world given shared → given ≡ scene → shared ≡ users → count ≡ length scene.plan
    → w' ≡ served_world scene users
served scene given users shared count w w' published new same_scene same_users all =
    published
    ∙ ap (λ (x : World). with_first x count)
    (new ∙ ap (λ (s : Scene). new_world s shared) same_scene ∙ ap (λ (u : List Row). new_world scene u) same_users)
    ∙ with_all scene users count all
