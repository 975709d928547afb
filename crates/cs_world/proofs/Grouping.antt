-- Two groups of connections that find no run in common: the runs of the first are those that its finds name.
use Rattle.std.proofs.Common.{◌≡◌, ◌∙◌, ℕ, Bool, true, false, not, ◌&&◌, ◌||◌, List, [], ◌∷◌, ◌++◌, Option, Some, refl, ap}
use Rattle.std.specs.Option.{option_map_or}
use Rattle.std.proofs.lemmas.List.Folds.{list_any-append}
use Rattle.cs_plan.specs.Scenes.{Scene}
use Rattle.cs_registry.specs.Keys.{Key, same_key, same_key-laws}
use Rattle.cs_session.specs.declared.message.Message.{Message}
use Rattle.cs_session.specs.declared.reply.Reply.{Reply as Said}
use Rattle.cs_session.specs.Steps.{Step as SessionStep}
use Rattle.cs_users.specs.Rows.{Row}
use Rattle.cs_world.specs.declared.step.Step.{Step}
use Rattle.cs_world.specs.Groups.{AreApart, NoneMeetsLimit, first_replies, first_steps, is_first, is_named, key_of, finds_key}
use Rattle.cs_world.specs.Isolation.{IsSameWithoutSecond}
use Rattle.cs_world.specs.Lists.{AreOwnSteps, steps_of, steps_on}
use Rattle.cs_world.specs.Marks.{WorldMark}
use Rattle.cs_world.specs.Worlds.{new_world}
use Rattle.cs_world.proofs.ApartLists.{AllOwned, Without, groups_from, new_agree}
use Rattle.cs_world.proofs.Messaging.{own_from}

either_true : (b c : Bool) → c ≡ true → (b || c) ≡ true
either_true true c is = refl
either_true false c is = is

module _ (mine : ℕ → Bool) (marked : List (Step × WorldMark)) (apart : AreApart mine marked) where
  abbrev first_names : Key → Bool
  first_names key = is_named (is_first mine) marked key

  abbrev others : Step → Bool
  others x = not (is_first mine x)

  own_key : (key : Key) → same_key key key ≡ true
  own_key key = same_key-laws.refl key

  named_here : (group : Step → Bool) (x : Step × WorldMark) (xs : List (Step × WorldMark)) (key : Key) → group x.0 ≡ true
      → key_of x.0 ≡ Some key → is_named group (x ∷ xs) key ≡ true
  named_here group x xs key is names_it =
      ap (λ (b : Bool). (b && option_map_or (same_key key) (key_of x.0) false) || is_named group xs key) is ∙ ap
      (λ (o : Option Key). option_map_or (same_key key) o false || is_named group xs key) names_it ∙ ap
      (λ (b : Bool). b || is_named group xs key) (own_key key)

  not_both : (b c : Bool) → (b && c) ≡ false → c ≡ true → b ≡ false
  not_both true c e is = absurd (cc)
  not_both false c e is = refl

  owned_by : (x : Step × WorldMark) (key : Key) (b : Bool) → is_first mine x.0 ≡ b → (b ≡ true → is_named (is_first mine) marked key ≡ true)
      → (b ≡ false → is_named others marked key ≡ true) → first_names key ≡ b
  owned_by x key true is first second = first refl
  owned_by x key false is first second =
      not_both (is_named (is_first mine) marked key) (is_named others marked key) (apart key) (second refl)

  all_owned : (xs : List (Step × WorldMark))
      → ((group : Step → Bool) (key : Key) → is_named group xs key ≡ true → is_named group marked key ≡ true) → AllOwned mine first_names xs
  all_owned [] in_all = tt
  all_owned (x ∷ xs) in_all = (
    λ key names_it. owned_by x key (is_first mine x.0) refl
        (λ is. in_all (is_first mine) key (named_here (is_first mine) x xs key is names_it))
        (λ is. in_all others key (named_here others x xs key (ap not is) names_it)),
    all_owned xs (λ group key is. in_all group key (either_true (finds_key group key x) (is_named group xs key) is)),
  )

  -- steps among these, with the second group and without it
  pub parts : (scene : Scene) (users : List Row) (xs : List (Step × WorldMark))
      → ((group : Step → Bool) (key : Key) → is_named group xs key ≡ true → is_named group marked key ≡ true)
      → NoneMeetsLimit (new_world scene users) xs
      → Without mine first_names (steps_of (new_world scene users) xs).1 (steps_of (new_world scene users) (first_steps mine xs))
      (first_replies mine xs (steps_of (new_world scene users) xs).0)
  parts scene users xs in_all few =
      groups_from mine first_names (λ p. p) (new_world scene users) (new_world scene users) xs (new_agree scene users mine first_names)
      (all_owned xs in_all) few

-- what is named among steps is named among more
module _ (group : Step → Bool) (xs ys : List (Step × WorldMark)) (key : Key) where
  named_before : is_named group xs key ≡ true → is_named group (xs ++ ys) key ≡ true
  named_before is = list_any-append (finds_key group key) xs ys ∙ ap (λ (b : Bool). b || is_named group ys key) is

  named_after : is_named group ys key ≡ true → is_named group (xs ++ ys) key ≡ true
  named_after is = list_any-append (finds_key group key) xs ys ∙ either_true (is_named group xs key) (is_named group ys key) is

module _ (mine : ℕ → Bool) (scene : Scene) (users : List Row) (marked : List (Step × WorldMark))
    (few : NoneMeetsLimit (new_world scene users) marked) where
  -- a message that comes next takes the same steps
  messages : (conn now : ℕ) (message : Message) (own : List (SessionStep × WorldMark)) (reply : Said) → mine conn ≡ true
      → AreApart mine (marked ++ steps_on conn now own) → NoneMeetsLimit (steps_of (new_world scene users) marked).1 (steps_on conn now own)
      → AreOwnSteps message conn now (steps_of (new_world scene users) marked).1 own reply
      → AreOwnSteps message conn now (steps_of (new_world scene users) (first_steps mine marked)).1 own reply
  messages conn now message own reply is apart more steps =
      let next = steps_on conn now own in
      let whole = marked ++ next in
      let its = parts mine whole apart scene users marked (λ group key named. named_before group marked next key named) few in
      own_from mine (first_names mine whole apart) message conn now is its.to (steps_of (new_world scene users) marked).1
      (steps_of (new_world scene users) (first_steps mine marked)).1 own reply its.agree
      (all_owned mine whole apart next (λ group key named. named_after group marked next key named)) more steps

  pub groups : AreApart mine marked → IsSameWithoutSecond mine (new_world scene users) marked
  groups apart =
      let its = parts mine marked apart scene users marked (λ group key named. named) few in
      record { replies = its.replies; places = its.to; connections = its.agree.own; messages = messages }
