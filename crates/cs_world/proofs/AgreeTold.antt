-- What connections of two groups are answered: the first ones the same in both registries, the others nothing of the first group.
use Rattle.std.proofs.Common.{◌≡◌, ◌∙◌, ℕ, ◌+◌, Bool, true, false, not, cond, List, [], ◌∷◌, ◌++◌, length, Option, None, Some, Result, Ok}
use Rattle.std.proofs.Common.{Err, refl, sym, ap, subst, arith}
use Rattle.std.specs.Prelude.{nat_le, slice_get, slice_index_or}
use Rattle.std.specs.Option.{option_map, option_map_or}
use Rattle.std.proofs.lemmas.Bool.Decides.{nat_tests}
use Rattle.std.proofs.lemmas.Option.{slice_get_within}
use Rattle.cs_journal.specs.Runs.{RunOf, fresh_run}
use Rattle.cs_names.specs.declared.limits.TheConstants.{RUNS, RUN_ATTACHES}
use Rattle.cs_plan.specs.Scenes.{state_at}
use Rattle.cs_permit.specs.declared.fault.FindFault.{FindFault}
use Rattle.cs_permit.specs.declared.fault.FindFault.TheVariants.{Unpublished, Full, Memory}
use Rattle.cs_registry.specs.declared.found.Found.{Found}
use Rattle.cs_registry.specs.Finds.{found, found_again, made}
use Rattle.cs_registry.specs.Keys.{Key}
use Rattle.cs_registry.specs.Registries.{Registry, is_published}
use Rattle.cs_registry.specs.Runs.{Runs, change, has_no_room, held_at, place_of, room_ends, with_find}
use Rattle.cs_registry.proofs.Finding.{when_full, when_found, when_new, when_unpublished}
use Rattle.cs_session.specs.Questions.{PortAnswer}
use Rattle.cs_session.specs.Questions as q
use Rattle.cs_world.specs.Asking.{find_answer, given_run, with_run_at}
use Rattle.cs_world.specs.Marks.{RunMark, refuses_run}
use Rattle.cs_world.proofs.Keyed as keyed
use Rattle.cs_world.proofs.Moved.{moved_told}
use Rattle.cs_world.proofs.Placing.{get_end}
use Rattle.cs_world.proofs.AgreeRuns.{Kept, tests, tests_change, tests_push, tests_at, some_at, there, AgreeRuns, both_change, both_more}
use Rattle.cs_world.proofs.AgreeRuns.{f_more, f_new, f_old, other_change, other_more, their}
use Rattle.cs_world.proofs.Within.{out, still_out}

module _ (ours : Key → Bool) where
  -- ---- what a connection of the first group is answered

  module _ (f : ℕ → ℕ) (w v : Registry RunOf) (a : AgreeRuns ours f w v) where
    -- of the answers and the registries then
    pub record Both (x y : PortAnswer × Registry RunOf) : Type 0 where
      pub to : ℕ → ℕ
      pub alike : (p : ℕ) → there v p ≡ true → f p ≡ to p
      pub told : x.0 ≡ moved_told to y.0
      pub fixed : y.0 ≡ moved_told (out (there y.1)) y.0
      pub agree : AgreeRuns ours to x.1 y.1
      pub more : (p : ℕ) → there v p ≡ true → there y.1 p ≡ true
      pub still : (p : ℕ) → their ours w p ≡ true → their ours x.1 p ≡ true

    pub both_is : (x x' y y' : PortAnswer × Registry RunOf) → x ≡ x' → y ≡ y' → Both x' y' → Both x y
    both_is x x' y y' e g b =
        subst (λ (z : PortAnswer × Registry RunOf). Both z y) (sym e) (subst (λ (z : PortAnswer × Registry RunOf). Both x' z) (sym g) b)

    pub both_same : (why : _) → Both (q.FindAnswer (Err why), w) (q.FindAnswer (Err why), v)
    both_same why = record { to = f; alike = λ p is. refl; told = refl; fixed = refl; agree = a; more = λ p is. is; still = λ p is. is }

    both_changed : (new : Found RunOf → Found RunOf) (p : ℕ) (e : Kept) (is : slice_get v.runs p ≡ Some e) (x y : PortAnswer)
        → x ≡ moved_told f y → y ≡ moved_told (out (there (record v { runs = change new p v.runs }))) y
        → Both (x, record w { runs = change new (f p) w.runs }) (y, record v { runs = change new p v.runs })
    both_changed new p e is x y same fixed = record {
      to = f;
      alike = λ k at. refl;
      told = same;
      fixed = fixed;
      agree = both_change ours f w v a new p e is;
      more = λ k at. tests_change (λ key. true) v.runs p new k at;
      still = λ k at. tests_change (λ key. not (ours key)) w.runs (f p) new k at;
    }

    module _ (key : Key) (own : ours key ≡ true)
        (few : is_published w key.number ≡ true → place_of key w.runs ≡ None → nat_le RUNS (length w.runs) ≡ false) (mark : RunMark) where
      abbrev w_given : Option RunOf
      w_given = given_run w key.number mark

      abbrev v_given : Option RunOf
      v_given = given_run v key.number mark

      given_same : w_given ≡ v_given
      given_same i = cond (refuses_run mark) None (option_map (λ tree. fresh_run tree (a.users i)) (state_at (a.scene i) key.number))

      published_same : is_published w key.number ≡ is_published v key.number
      published_same = ap (λ (xs : List Bool). slice_index_or xs key.number false) a.published

      made_both : (g : Option RunOf) → Both (find_answer (made w key g)) (find_answer (made v key g))
      made_both None = both_same Memory
      made_both (Some held) =
          let one : Found RunOf = record { finds = 1; held = held } in
          let last : there (record v {
            runs = v.runs ++ (key, one) ∷ [];
          }) (length v.runs) ≡ true =
          tests_at (λ key. true) (v.runs ++ (key, one) ∷ []) (length v.runs) (key, one) (get_end v.runs (key, one)) in
          record {
            to = f_more ours f w v a key one own;
            alike = λ p is. sym
                (f_old ours f w v a key one own p (let e = some_at (λ key. true) v.runs p is in slice_get_within v.runs p e.0 e.1));
            told = ap (λ (n : ℕ). q.FindAnswer (Ok n)) (sym (f_new ours f w v a key one own));
            fixed = ap (λ (n : ℕ). q.FindAnswer (Ok n)) (sym (still_out (there (record v {
              runs = v.runs ++ (key, one) ∷ [];
            })) (length v.runs) last));
            agree = both_more ours f w v a key one own;
            more = λ p is. tests_push (λ key. true) v.runs (key, one) p is;
            still = λ p is. tests_push (λ key. not (ours key)) w.runs (key, one) p is;
          }

      find_by : (b full : Bool) (o : Option ℕ) → is_published v key.number ≡ b → place_of key v.runs ≡ o → room_ends v.runs o ≡ full
          → Both (find_answer (found w key w_given)) (find_answer (found v key v_given))
      find_by false full o shown at room =
          both_is _ _ _ _ (ap find_answer (when_unpublished w key w_given (published_same ∙ shown)))
          (ap find_answer (when_unpublished v key v_given shown)) (both_same Unpublished)
      find_by true full (Some p) shown at room = by full refl
        where
          its : (x : Found RunOf) × (slice_get v.runs p ≡ Some (key, x))
          its = keyed.there key v.runs p at

          at_w : place_of key w.runs ≡ Some (f p)
          at_w = a.known key own ∙ ap (option_map f) at

          room_w : room_ends w.runs (Some (f p)) ≡ full
          room_w = ap (λ (o : Option Kept). option_map_or (nat_le RUN_ATTACHES) (option_map (λ (run : Kept). run.1.finds) o) false)
              (a.runs p (key, its.0) its.1 ∙ sym its.1) ∙ room

          by : (c : Bool) → full ≡ c → Both (find_answer (found w key w_given)) (find_answer (found v key v_given))
          by true is =
              both_is _ _ _ _ (ap find_answer (when_full w key w_given (published_same ∙ shown) (ap (room_ends w.runs) at_w ∙ room_w ∙ is)))
              (ap find_answer (when_full v key v_given shown (ap (room_ends v.runs) at ∙ room ∙ is))) (both_same Full)
          by false is =
              let now : there (record v {
                runs = with_find v.runs p;
              }) p ≡ true = tests_change (λ key. true) v.runs p (λ run. record run {
                finds = run.finds + 1;
              }) p (tests_at (λ key. true) v.runs p (key, its.0) its.1) in
              both_is _ _ _ _ (ap find_answer (when_found w key w_given (f p) (published_same ∙ shown) at_w (room_w ∙ is)))
              (ap find_answer (when_found v key v_given p shown at (room ∙ is)))
              (both_changed (λ run. record run {
                finds = run.finds + 1;
              }) p (key, its.0) its.1 (q.FindAnswer (Ok (f p))) (q.FindAnswer (Ok p)) refl
              (ap (λ (n : ℕ). q.FindAnswer (Ok n)) (sym (still_out (there (record v { runs = with_find v.runs p })) p now))))
      find_by true full None shown at room =
          let at_w : place_of key w.runs ≡ None = a.known key own ∙ ap (option_map f) at in
          let room_w : nat_le RUNS (length w.runs) ≡ false = few (published_same ∙ shown) at_w in
          let room_v : nat_le RUNS (length v.runs) ≡ false = (let fewer = a.fewer in grind (arith, nat_tests)) in
          both_is _ _ _ _ (ap find_answer (when_new w key w_given (published_same ∙ shown) at_w room_w ∙ ap (made w key) given_same))
          (ap find_answer (when_new v key v_given shown at room_v)) (made_both v_given)

      pub find_both : Both (find_answer (found w key w_given)) (find_answer (found v key v_given))
      find_both = find_by (is_published v key.number) (room_ends v.runs (place_of key v.runs)) (place_of key v.runs) refl refl refl

    module _ (p : ℕ) (at : there v p ≡ true) (serve : RunOf → PortAnswer × RunOf) (none : PortAnswer)
        (plain : (run : RunOf) (g : ℕ → ℕ) → (serve run).0 ≡ moved_told g (serve run).0) where
      abbrev ends : Registry RunOf → ℕ → Option RunOf → PortAnswer × Registry RunOf
      ends r n o =
          option_map_or {T = RunOf} {U = PortAnswer × Registry RunOf} (λ run. ((serve run).0, with_run_at r n (serve run).1)) o (none, r)

      pub put_both : Both (ends w (f p) (held_at w.runs (f p))) (ends v p (held_at v.runs p))
      put_both =
          let its = some_at (λ key. true) v.runs p at in
          let run : RunOf = its.0.1.held in
          let held_w : held_at w.runs (f p) ≡ Some run = ap (option_map (λ (x : Kept). x.1.held)) (a.runs p its.0 its.1) in
          let held_v : held_at v.runs p ≡ Some run = ap (option_map (λ (x : Kept). x.1.held)) its.1 in
          both_is _ _ _ _ (ap (ends w (f p)) held_w) (ap (ends v p) held_v) (both_changed (λ x. record x {
            held = (serve run).1;
          }) p its.0 its.1 (serve run).0 (serve run).0 (plain run f) (plain run _))

  -- ---- what one of the second group is answered

  module _ (f : ℕ → ℕ) (w v : Registry RunOf) (a : AgreeRuns ours f w v) where
    pub record Other (x : PortAnswer × Registry RunOf) : Type 0 where
      pub fixed : x.0 ≡ moved_told (out (their ours x.1)) x.0
      pub agree : AgreeRuns ours f x.1 v
      pub still : (p : ℕ) → their ours w p ≡ true → their ours x.1 p ≡ true

    other_is : (x x' : PortAnswer × Registry RunOf) → x ≡ x' → Other x' → Other x
    other_is x x' e b = subst Other (sym e) b

    pub other_same : (why : _) → Other (q.FindAnswer (Err why), w)
    other_same why = record { fixed = refl; agree = a; still = λ p is. is }

    module _ (key : Key) (other : ours key ≡ false) (mark : RunMark) where
      is_theirs : (runs : Runs RunOf) (p : ℕ) (x : Found RunOf) → slice_get runs p ≡ Some (key, x)
          → tests (λ key. not (ours key)) runs p ≡ true
      is_theirs runs p x at = tests_at (λ key. not (ours key)) runs p (key, x) at ∙ ap not other

      other_made : (g : Option RunOf) → Other (find_answer (made w key g))
      other_made None = other_same Memory
      other_made (Some held) =
          let one : Found RunOf = record { finds = 1; held = held } in
          record {
            fixed = ap (λ (n : ℕ). q.FindAnswer (Ok n)) (sym (still_out (their ours (record w {
              runs = w.runs ++ (key, one) ∷ [];
            })) (length w.runs) (is_theirs (w.runs ++ (key, one) ∷ []) (length w.runs) one (get_end w.runs (key, one)))));
            agree = other_more ours f w v a key one other;
            still = λ p is. tests_push (λ key. not (ours key)) w.runs (key, one) p is;
          }

      other_by : (g : Option RunOf) (b full : Bool) (o : Option ℕ) → place_of key w.runs ≡ o
          → Other (find_answer
          (cond {A = Result ℕ FindFault × Registry RunOf} b (Err Unpublished, w)
          (cond full (Err Full, w) (option_map_or (found_again w) o (made w key g)))))
      other_by g true full o at = other_same Unpublished
      other_by g false true o at = other_same Full
      other_by g false false None at = other_made g
      other_by g false false (Some p) at =
          let its = keyed.there key w.runs p at in
          let here : their ours w p ≡ true = is_theirs w.runs p its.0 its.1 in
          let now : their ours (record w {
            runs = with_find w.runs p;
          }) p ≡ true = tests_change (λ key. not (ours key)) w.runs p (λ run. record run { finds = run.finds + 1 }) p here in
          record {
            fixed = ap (λ (n : ℕ). q.FindAnswer (Ok n)) (sym (still_out (their ours (record w { runs = with_find w.runs p })) p now));
            agree = other_change ours f w v a (λ run. record run { finds = run.finds + 1 }) p here;
            still = λ k is. tests_change (λ key. not (ours key)) w.runs p (λ run. record run { finds = run.finds + 1 }) k is;
          }

      pub other_find : Other (find_answer (found w key (given_run w key.number mark)))
      other_find =
          other_by (given_run w key.number mark) (not (is_published w key.number)) (has_no_room w.runs key) (place_of key w.runs) refl

    module _ (p : ℕ) (at : their ours w p ≡ true) (serve : RunOf → PortAnswer × RunOf) (none : PortAnswer)
        (plain : (run : RunOf) (g : ℕ → ℕ) → (serve run).0 ≡ moved_told g (serve run).0) where
      abbrev ends_there : Option RunOf → PortAnswer × Registry RunOf
      ends_there o =
          option_map_or {T = RunOf} {U = PortAnswer × Registry RunOf} (λ run. ((serve run).0, with_run_at w p (serve run).1)) o (none, w)

      pub other_put : Other (ends_there (held_at w.runs p))
      other_put =
          let its = some_at (λ key. not (ours key)) w.runs p at in
          let run : RunOf = its.0.1.held in
          other_is _ _ (ap ends_there (ap (option_map (λ (x : Kept). x.1.held)) its.1)) (record {
            fixed = plain run _;
            agree = other_change ours f w v a (λ x. record x { held = (serve run).1 }) p at;
            still = λ k is. tests_change (λ key. not (ours key)) w.runs p (λ x. record x { held = (serve run).1 }) k is;
          })
