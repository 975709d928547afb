-- What a find returns, case by case.
use Rattle.std.proofs.Common.{◌≡◌, ◌∙◌, ◌<◌, ◌≤◌, ℕ, zero, suc, true, false, List, [], ◌∷◌, length, Option, None, Some, is_some, refl, sym}
use Rattle.std.proofs.Common.{ap, arith}
use Rattle.std.specs.Prelude.{Result, Ok, Err, IfErr, IfOk, map, slice_get, slice_index_or, unwrap_or}
use Rattle.std.proofs.Math.ListN.{get_or-map}
use Rattle.std.proofs.lemmas.Bool.Decides.{nat_tests}
use Rattle.std.proofs.lemmas.Option.{unwrap_or-slice_get}
use Rattle.cs_names.specs.declared.limits.TheConstants.{RUNS}
use Rattle.cs_plan.specs.Scenes.{IsPublished, Scene, state_at}
use Rattle.cs_tree_model.specs.Tree.{Tree}
use Rattle.cs_users.specs.Rows.{Row}
use Rattle.cs_permit.specs.declared.fault.FindFault.{FindFault}
use Rattle.cs_permit.specs.declared.fault.FindFault.TheVariants.{Unpublished, Full, Memory}
use Rattle.cs_registry.specs.Keys.{Key}
use Rattle.cs_registry.specs.Registries.{IsKept, Registry, is_published}
use Rattle.cs_registry.specs.Runs.{Runs, has_no_room, place_of, room_ends, with_find, with_run}
use Rattle.cs_registry.specs.Finds.{Finds, IsNew, found, found_again, made}

module _ {H : Type 0} (r : Registry H) (key : Key) (given : Option H) where
  pub when_unpublished : is_published r key.number ≡ false → found r key given ≡ (Err Unpublished, r)
  when_unpublished missing = rw missing refl

  pub when_full : is_published r key.number ≡ true → has_no_room r.runs key ≡ true → found r key given ≡ (Err Full, r)
  when_full there full = rw (there, full) refl

  pub when_found : (place : ℕ) → is_published r key.number ≡ true → place_of key r.runs ≡ Some place → room_ends r.runs (Some place) ≡ false
      → found r key given ≡ found_again r place
  when_found place published there room = rw (published, there, room) refl

  pub when_new : is_published r key.number ≡ true → place_of key r.runs ≡ None → room_ends r.runs None ≡ false
      → found r key given ≡ made r key given
  when_new published none room = rw (published, none, room) refl

module _ {H : Type 0} (is_fresh : Key → Tree → List Row → H → Type 0) (r : Registry H) (key : Key) where
  pub finds_none : is_published r key.number ≡ false → Finds is_fresh r key (Err Unpublished) r
  finds_none missing = record { given = None; fresh = tt; answers = sym (when_unpublished r key None missing) }

  module _ (published : is_published r key.number ≡ true) where
    pub finds_again : (place : ℕ) → place_of key r.runs ≡ Some place → (answer : Result ℕ FindFault) (runs : Runs H)
        → IfOk answer (λ p. (p ≡ place) × (room_ends r.runs (Some place) ≡ false) × (runs ≡ with_find r.runs place))
        → IfErr answer (λ e. (e ≡ Full) × (room_ends r.runs (Some place) ≡ true) × (runs ≡ r.runs))
        → Finds is_fresh r key answer (record r { runs = runs })
    finds_again place there (Ok p) runs ok err = record {
      given = None;
      fresh = tt;
      answers = (λ i. (Ok (ok.0 i), record r { runs = ok.2 i })) ∙ sym (when_found r key None place published there ok.1);
    }
    finds_again place there (Err e) runs ok err = record {
      given = None;
      fresh = tt;
      answers = (λ i. (
        Err (err.0 i),
        record r {
          runs = err.2 i;
        },
      )) ∙ sym (when_full r key None published (ap (room_ends r.runs) there ∙ err.1));
    }

    module _ (none : place_of key r.runs ≡ None) where
      pub finds_full : RUNS ≤ length r.runs → Finds is_fresh r key (Err Full) r
      finds_full many =
          let full : room_ends r.runs None ≡ true = grind (arith, nat_tests) in
          record { given = None; fresh = tt; answers = sym (when_full r key None published (ap (room_ends r.runs) none ∙ full)) }

      module _ (few : length r.runs < RUNS) where
        room : room_ends r.runs None ≡ false
        room = grind (arith, nat_tests)

        pub finds_short : (runs : Runs H) → runs ≡ r.runs → Finds is_fresh r key (Err Memory) (record r { runs = runs })
        finds_short runs same = record {
          given = None;
          fresh = tt;
          answers = (λ i. (Err Memory, record r { runs = same i })) ∙ sym (when_new r key None published none room);
        }

        pub finds_new : (place : ℕ) (runs : Runs H) (held : H) → place ≡ length r.runs → runs ≡ with_run r.runs key held
            → IsNew is_fresh r key held → Finds is_fresh r key (Ok place) (record r { runs = runs })
        finds_new place runs held last with new = record {
          given = Some held;
          fresh = new;
          answers = (λ i. (Ok (last i), record r { runs = with i })) ∙ sym (when_new r key (Some held) published none room);
        }

-- ---- what is stored

-- a state is published if there is one at its place
pub published_is : {A : Type 0} (states : List (Option A)) (n : ℕ) (o : Option A) → o ≡ unwrap_or (slice_get states n) None
    → slice_index_or (map is_some states) n false ≡ is_some o
published_is states n o is = get_or-map is_some states n None ∙ ap is_some (sym (is ∙ unwrap_or-slice_get states n None))

stored : {A : Type 0} (states : List (Option A)) (n : ℕ) (x : A) → Some x ≡ unwrap_or (slice_get states n) None
    → slice_get states n ≡ Some (Some x)
stored [] n x is = cc
stored (s ∷ states) zero x is = ap Some (sym is)
stored (s ∷ states) (suc n) x is = stored states n x is

module _ {H A : Type 0} {admits : ℕ → Tree → Type 0} {scene : Scene} {tree_of : A
    → Tree} {states : List (Option A)} {missing : ℕ} {runs : Runs H}
    (kept : IsKept admits scene tree_of states missing runs) (n : ℕ) (x : A) (there : Some x ≡ unwrap_or (slice_get states n) None) where
  is_state : IsPublished (record { number = n; scene = scene; tree = tree_of x })
  is_state = kept.made n x (stored states n x there)

  -- and it is the state of its number, and may be published under it
  pub is_admitted : admits n (tree_of x)
  is_admitted = kept.admitted (record { number = n; scene = scene; tree = tree_of x }) is_state refl

  pub state_is : state_at scene n ≡ Some (tree_of x)
  state_is = is_state.state
