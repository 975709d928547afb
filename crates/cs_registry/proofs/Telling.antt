-- What a find that was granted leaves.
use Rattle.std.proofs.Common.{◌≡◌, ◌≢◌, ◌∙◌, ◌+◌, ℕ, zero, suc, Bool, true, false, List, [], ◌∷◌, ◌++◌, length, Option, None, Some, refl}
use Rattle.std.proofs.Common.{sym, ap, subst, arith}
use Rattle.std.specs.Prelude.{Result, IfOk, IfSome, IsSomeAnd, nat_lt, position, slice_get, slice_set}
use Rattle.std.specs.List.{position_or_len}
use Rattle.std.specs.Map.{keys_of}
use Rattle.std.specs.Option.{option_map, option_map_or}
use Rattle.std.proofs.Math.Seq.{get_or-append_seam, map-set_same}
use Rattle.std.proofs.lemmas.Bool.Decides.{nat_tests}
use Rattle.std.proofs.lemmas.List.{get_or-set_same, length-set, length_push, map-append}
use Rattle.std.proofs.lemmas.List.Folds.{position_or_len_push}
use Rattle.std.proofs.lemmas.Map.Entries.{length-keys_of}
use Rattle.std.proofs.lemmas.Option.{get_or_from_slice_get, none-some, same_Some, slice_get_read, slice_get_within}
use Rattle.indexmap.proofs.MapLemmas.{Missing-position}
use Rattle.cs_tree_model.specs.Tree.{Tree}
use Rattle.cs_users.specs.Rows.{Row}
use Rattle.cs_permit.specs.declared.fault.FindFault.{FindFault}
use Rattle.cs_registry.specs.Keys.{Key, same_key, same_key-laws}
use Rattle.cs_registry.specs.Registries.{Registry, is_published}
use Rattle.cs_registry.specs.Runs.{has_no_room, place_of, room_ends, with_run}
use Rattle.cs_registry.specs.Finds.{Finds, IsFound, IsNew, found}
use Rattle.cs_registry.specs.declared.found.Found.{Found}
use Rattle.cs_registry.proofs.Finding.{when_found, when_full, when_new, when_unpublished}

pub get_set_other : {X : Type 0} (xs : List X) (place other : ℕ) (x : X) → other ≢ place
    → slice_get (slice_set xs place x) other ≡ slice_get xs other
get_set_other [] place other x apart = refl
get_set_other (y ∷ ys) zero zero x apart = absurd (apart refl)
get_set_other (y ∷ ys) zero (suc other) x apart = refl
get_set_other (y ∷ ys) (suc place) zero x apart = refl
get_set_other (y ∷ ys) (suc place) (suc other) x apart = get_set_other ys place other x (λ e. apart (ap suc e))

get_set_own : {X : Type 0} (xs : List X) (place : ℕ) (x y : X) → slice_get xs place ≡ Some y
    → slice_get (slice_set xs place x) place ≡ Some x
get_set_own xs place x y there =
    (let inside = slice_get_within xs place y there in
    slice_get_read (slice_set xs place x) _ place x (sym (length-set xs place x)) inside (sym (get_or-set_same xs place x x inside)))

keys_set : {K X : Type 0} (es : List (K × X)) (place : ℕ) (k : K) (x w : X) → slice_get es place ≡ Some (k, x)
    → keys_of (slice_set es place (k, w)) ≡ keys_of es
keys_set es place k x w there =
    map-set_same (λ e. e.0) es place (k, w) (k, x) (sym (ap (λ e. e.0) (get_or_from_slice_get es place (k, x) (k, x) there)))

get_pushed_other : {X : Type 0} (xs : List X) (other : ℕ) (x : X) → other ≢ length xs → slice_get (xs ++ x ∷ []) other ≡ slice_get xs other
get_pushed_other [] zero x apart = absurd (apart refl)
get_pushed_other [] (suc other) x apart = refl
get_pushed_other (y ∷ ys) zero x apart = refl
get_pushed_other (y ∷ ys) (suc other) x apart = get_pushed_other ys other x (λ e. apart (ap suc e))

get_pushed_own : {X : Type 0} (xs : List X) (x : X) → slice_get (xs ++ x ∷ []) (length xs) ≡ Some x
get_pushed_own xs x =
    slice_get_read (xs ++ x ∷ []) (length xs + 1) (length xs) x (sym (length_push xs x)) (omega arith) (sym (get_or-append_seam xs x [] x))

-- the last one, of a key that had no place
placed_last : {K X : Type 0} (t : K → Bool) (es : List (K × X)) (e : K × X) → position t (keys_of es) ≡ None → t e.0 ≡ true
    → position t (keys_of (es ++ e ∷ [])) ≡ Some (length es)
placed_last t es e none own =
    let ks = keys_of es in
    let absent : position_or_len t ks ≡ length es = (Missing-position t es none).or_len in
    let each : length ks ≡ length es = length-keys_of es in
    let last : position_or_len t (ks ++ e.0 ∷ []) ≡ length es = grind (arith, nat_tests, position_or_len_push t ks e.0) in
    let inside : nat_lt (length es) (length (ks ++ e.0 ∷ [])) ≡ true = grind (arith, nat_tests, length_push ks e.0) in
    ap (position t) (map-append (λ x. x.0) es (e ∷ [])) ∙ rw (last, inside) refl

module _ {H : Type 0} (is_fresh : Key → Tree → List Row → H → Type 0) (old : Registry H) (key : Key) where
  new_run : (held : H) → IsNew is_fresh old key held → place_of key old.runs ≡ None
      → IsFound is_fresh old key (length old.runs) (record old { runs = with_run old.runs key held })
  new_run held new none = record {
    here = placed_last (same_key key) old.runs (key, _) none (same_key-laws.refl key);
    same = λ before there. absurd (none-some before (sym none ∙ there));
    fresh = λ _. subst (λ (o : Option (Key × Found H)). IsSomeAnd (option_map (λ e. e.1.held) o) (IsNew is_fresh old key))
        (sym (get_pushed_own old.runs _)) new;
    others = λ other apart. get_pushed_other old.runs other _ apart;
  }

  old_run : (place : ℕ) (o : Option (Key × Found H)) → slice_get old.runs place ≡ o → place_of key old.runs ≡ Some place
      → IsFound is_fresh old key place (record old {
        runs = option_map_or (λ e. slice_set old.runs place (e.0, record e.1 { finds = e.1.finds + 1 })) o old.runs;
      })
  old_run place None there here = record {
    here = here;
    same = λ before was. (same_Some place before (sym here ∙ was), refl);
    fresh = λ none. absurd (none-some place (sym none ∙ here));
    others = λ other apart. refl;
  }
  old_run place (Some e) there here = record {
    here = ap (λ ks. position (same_key key) ks) (keys_set old.runs place e.0 e.1 _ there) ∙ here;
    same = λ before was. (
      same_Some place before (sym here ∙ was),
      ap (option_map (λ (run : Key × Found H). run.1.held))
          (get_set_own old.runs place _ e there) ∙ sym (ap (option_map (λ (run : Key × Found H). run.1.held)) there),
    );
    fresh = λ none. absurd (none-some place (sym none ∙ here));
    others = λ other apart. get_set_other old.runs place other _ apart;
  }

  abbrev Told : Result ℕ FindFault × Registry H → Type 0
  Told told = IfOk told.0 (λ place. IsFound is_fresh old key place told.1)

  told : (given : Option H) → IfSome given (IsNew is_fresh old key) → (published full : Bool) (o : Option ℕ)
      → is_published old key.number ≡ published → has_no_room old.runs key ≡ full → place_of key old.runs ≡ o → Told (found old key given)
  told given fresh false full o p n w = subst Told (sym (when_unpublished old key given p)) tt
  told given fresh true true o p n w = subst Told (sym (when_full old key given p n)) tt
  told given fresh true false (Some place) p n w =
      subst Told (sym (when_found old key given place p w (sym (ap (room_ends old.runs) w) ∙ n))) (old_run place _ refl w)
  told None fresh true false None p n w = subst Told (sym (when_new old key None p w (sym (ap (room_ends old.runs) w) ∙ n))) tt
  told (Some held) fresh true false None p n w =
      subst Told (sym (when_new old key (Some held) p w (sym (ap (room_ends old.runs) w) ∙ n))) (new_run held fresh w)

-- a find that is granted gives the run of the key, and no other run changes
pub tells : {H : Type 0} {is_fresh : Key → Tree → List Row → H → Type 0} {old new : Registry H} {key : Key} {answer : Result ℕ FindFault}
    → Finds is_fresh old key answer new → IfOk answer (λ place. IsFound is_fresh old key place new)
tells {is_fresh = is_fresh} {old = old} {key = key} finds =
    subst (Told is_fresh old key) (sym finds.answers) (told is_fresh old key finds.given finds.fresh _ _ _ refl refl refl)
