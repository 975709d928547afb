-- Growths that no read shows.
use Rattle.std.proofs.Common.{◌≡◌, ◌≢◌, ◌==◌, ℕ, true, false, Option, None, Some, IsSome, IfSome, refl, sym, ap, ◌∙◌, subst, ⊎_elim}
use Rattle.std.proofs.lemmas.Bool.{false≢true, cases_eq, eq-eqb, ne_eqb}
use Rattle.std.specs.Option.{IsSomeAnd, is_some, option_map}
use Rattle.cs_tree_model.specs.Laws.Moves.{name_cases}
use Rattle.cs_tree_model.specs.Record.{IsDirectory, kind_of}
use Rattle.cs_tree_model.specs.Tree.{NameBytes, Tree, content_numbered}
use Rattle.cs_names.specs.Texts.{same_bytes}
use Rattle.cs_overlay.specs.declared.node.Body.{Body}
use Rattle.cs_overlay.specs.declared.node.Body.TheVariants.{Directory, File}
use Rattle.cs_tree_model.specs.declared.record.Record.{Record}
use Rattle.cs_overlay.specs.declared.node.Node.{Node}
use Rattle.cs_overlay.specs.Layers.{SameNodes, AreNodes, HasNode, IsNode, IsStep, KeepsNodes, SameLayers, SaysBoth, StepsAt, Upper}
use Rattle.cs_overlay.specs.Layers.{body_with, content_over, layered_lookup, found_at, layer_at, layers, own_in, said_over, shape_over}
use Rattle.cs_overlay.specs.Layers.{step_at, with_answer, with_at}
use Rattle.cs_overlay.proofs.Copies.{same_alike}
use Rattle.cs_overlay.proofs.Layering.{content_said, hides_said, nodes_put, one_upper, said_here, said_there, step_here, with_at_here}
use Rattle.cs_overlay.proofs.Layering.{with_at_other}

-- an entry that shows the same in place of another
module _ (t : Tree) (c : Upper) (k : ℕ) (d v : Node) (here : c k ≡ Some (Some d))
    (shape : shape_over (content_numbered t k) v ≡ shape_over (content_numbered t k) d)
    (own : (y : NameBytes) → said_over t k y (own_in v.body y) ≡ said_over t k y (own_in d.body y))
    (node : IsNode (content_numbered t k) k d → IsNode (content_numbered t k) k v)
    (e : Upper) (goes : SameNodes (with_at c k (Some (Some v))) e) where
  there : e k ≡ Some (Some v)
  there = goes k ∙ with_at_here t c k (Some (Some v))

  other : (q : ℕ) → q ≢ k → e q ≡ c q
  other q ne = goes q ∙ with_at_other t c k (Some (Some v)) q ne

  pub same_put : SameLayers t c e
  same_put = record {
    layer = λ n. ⊎_elim
        (λ (s : n ≡ k). ap (layers t e) s ∙ ap (layer_at t k) there ∙ ap Some shape ∙ ap (layer_at t k) (sym here) ∙ ap (layers t c)
        (sym s))
        (λ (ne : n ≢ k). ap (layer_at t n) (other n ne))
        (cases_eq n k);
    finds = λ u x. ⊎_elim
        (λ (s : u ≡ k). ap (λ w. layered_lookup t e w x) s ∙ ap (found_at t k x) there ∙ own x ∙ ap (found_at t k x) (sym here) ∙ ap
        (λ w. layered_lookup t c w x) (sym s))
        (λ (ne : u ≢ k). ap (found_at t u x) (other u ne))
        (cases_eq u k);
    nodes = λ all. subst (AreNodes t) (one_upper (with_at c k (Some (Some v))) e goes) (nodes_put t c k all v (node (all k d here)));
  }

-- a step that leaves the record
pub same_step : (t : Tree) (n : ℕ) (c e : Upper) → StepsAt t n (λ r. r) c e → SameLayers t c e
same_step t n c e s = same_put t c n s.was s.is s.here s.step.shape (λ y. ap (said_over t n y) (s.step.own y)) s.step.node e s.goes

-- ---- a directory gets an answer that a look-up finds already

module _ (t : Tree) (c : Upper) (u : ℕ) (x : NameBytes) (o : Option ℕ) where
  said_again : (d : Node) → c u ≡ Some (Some d) → layered_lookup t c u x ≡ o → (y : NameBytes)
      → said_over t u y (own_in (body_with d.body x o) y) ≡ said_over t u y (own_in d.body y)
  said_again d here says y = ⊎_elim
      (λ (one : (same_bytes y x ≡ true) × (y ≡ x)). at_x d.body (sym (ap (found_at t u x) here) ∙ says) one.1)
      (λ (two : (same_bytes y x ≡ false) × (y ≢ x)). ap (said_over t u y) (said_there d.body x o y two.1))
      (name_cases y x)
    where
      at_x : (b : Body) → said_over t u x (own_in b x) ≡ o → y ≡ x
          → said_over t u y (own_in (body_with b x o) y) ≡ said_over t u y (own_in b y)
      at_x (Directory names) is same =
          ap (λ z. said_over t u z (own_in (body_with (Directory names) x o) z)) same ∙ ap (said_over t u x)
          (said_here None (Directory names) x o refl) ∙ sym (ap (λ z. said_over t u z (own_in (Directory names) z)) same ∙ is)
      at_x (File p) is same = refl

  pub same_said : layered_lookup t c u x ≡ o → (e : Upper) → SameNodes (step_at c u (λ d. with_answer d x o)) e → SameLayers t c e
  same_said says e goes = by (c u) refl
    where
      nothing : (w : Option (Option Node)) → c u ≡ w → option_map (option_map (λ d. with_answer d x o)) w ≡ w → SameNodes c e
      nothing w is stays q = goes q ∙ ap (λ v. with_at c u v q) (ap (option_map (option_map (λ d. with_answer d x o))) is ∙ stays) ∙ ⊎_elim
          (λ (s : q ≡ u). ap (with_at c u w) s ∙ with_at_here t c u w ∙ sym (ap c s ∙ is))
          (λ (ne : q ≢ u). with_at_other t c u w q ne)
          (cases_eq q u)

      by : (w : Option (Option Node)) → c u ≡ w → SameLayers t c e
      by None is = same_alike t c e (nothing None is refl)
      by (Some None) is = same_alike t c e (nothing (Some None) is refl)
      by (Some (Some d)) is = same_put t c u d (with_answer d x o) is
          (λ i. record (shape_over (content_numbered t u) d) {
            file =
                record (shape_over (content_numbered t u) d).file { content = content_said (content_numbered t u) d.body x o i };
          })
          (said_again d is says)
          (λ h. record {
            kind = h.kind ∙ ap kind_of (sym (content_said (content_numbered t u) d.body x o));
            named = h.named;
            hides = hides_said (content_numbered t u) d.body x o h.hides;
          })
          e (λ q. goes q ∙ ap (λ w. with_at c u (option_map (option_map (λ v. with_answer v x o)) w) q) is)

-- a number that had a node has one after an answer
pub keeps_said : (c : Upper) (u : ℕ) (x : NameBytes) (o : Option ℕ) (e : Upper) → SameNodes (step_at c u (λ d. with_answer d x o)) e
    → KeepsNodes c e
keeps_said c u x o e goes n h = ⊎_elim
    (λ (s : n ≡ u). (with_answer h.0 x o, goes n ∙ ap (step_at c u (λ d. with_answer d x o)) s ∙ here c u (ap c (sym s) ∙ h.1)))
    (λ (ne : n ≢ u). (h.0, goes n ∙ off c u (option_map (option_map (λ d. with_answer d x o)) (c u)) ne ∙ h.1))
    (cases_eq n u)
  where
    here : (c : Upper) (u : ℕ) → c u ≡ Some (Some h.0) → step_at c u (λ d. with_answer d x o) u ≡ Some (Some (with_answer h.0 x o))
    here c u is =
        ap (λ w. with_at c u (option_map (option_map (λ d. with_answer d x o)) w) u) is ∙
        (let b : u == u ≡ true = eq-eqb u u refl in rw b refl)

    off : (c : Upper) (u : ℕ) (w : Option (Option Node)) → n ≢ u → with_at c u w n ≡ c n
    off c u w ne = let b : u == n ≡ false = ne_eqb u n (λ f. ne (sym f)) in rw b refl

-- an answer stays an answer
pub still_said : (b : Body) (x : NameBytes) (o : Option ℕ) (y : NameBytes) → IsSome (own_in b y) → IsSome (own_in (body_with b x o) y)
still_said (File p) x o y h = h
still_said (Directory names) x o y h = ⊎_elim
    (λ (one : (same_bytes y x ≡ true) × (y ≡ x)). subst IsSome
    (sym (ap (own_in (body_with (Directory names) x o)) one.1 ∙ said_here None (Directory names) x o refl)) refl)
    (λ (two : (same_bytes y x ≡ false) × (y ≢ x)). subst IsSome (sym (said_there (Directory names) x o y two.1)) h)
    (name_cases y x)

-- the file that a step changed
pub changed_at : (P : Node → Node → Type 0) (c e : Upper) (n : ℕ) (old new : Option Node) → Some old ≡ c n → HasNode c n
    → SameNodes (with_at c n (Some new)) e → (IsSome old → IsSome new) → IfSome old (λ d. IfSome new (P d))
    → (d : Node) × (v : Node) × (c n ≡ Some (Some d)) × P d v × SameNodes (with_at c n (Some (Some v))) e
changed_at P c e n None new is has goes stays all =
    absurd (false≢true (ap is_some (let two : Some None ≡ Some (Some has.0) = is ∙ has.1 in let one : None ≡ Some has.0 = cc in one)))
changed_at P c e n (Some d) None is has goes stays all = absurd (false≢true (stays refl))
changed_at P c e n (Some d) (Some v) is has goes stays all = (d, v, sym is, all, goes)

-- the entry of a number that has a node is that node
pub some_node : (c : Upper) (n : ℕ) (o : Option Node) → Some o ≡ c n → HasNode c n → IsSome o
some_node c n None is has =
    absurd (false≢true (ap is_some (let two : Some None ≡ Some (Some has.0) = is ∙ has.1 in let one : None ≡ Some has.0 = cc in one)))
some_node c n (Some d) is has = refl

-- a number that has a node has an entry
pub no_entry : (c : Upper) (n : ℕ) → None ≡ c n → HasNode c n → ⊥
no_entry c n none has = false≢true (ap is_some (none ∙ has.1))

pub steps_of : (t : Tree) (c e : Upper) (n : ℕ) (f : Record → Record) (d v : Node) → c n ≡ Some (Some d)
    → IsStep (content_numbered t n) n f d v → SameNodes (with_at c n (Some (Some v))) e → StepsAt t n f c e
steps_of t c e n f d v here step goes = record { was = d; here = here; is = v; step = step; goes = goes }

-- a directory has answers for two names after both were set
module _ (t : Tree) (c : Upper) (u : ℕ) (x y : NameBytes) (a b : Option ℕ) (m e : Upper) (d : Node) (here : c u ≡ Some (Some d))
    (directory : content_over (content_numbered t u) d.body ≡ None)
    (one : SameNodes (step_at c u (λ d. with_answer d x a)) m) (two : SameNodes (step_at m u (λ d. with_answer d y b)) e) where
  first : m u ≡ Some (Some (with_answer d x a))
  first = one u ∙ ap (λ w. w u) (step_here t c u (λ v. with_answer v x a) d here) ∙ with_at_here t c u (Some (Some (with_answer d x a)))

  pub says_both : SaysBoth e u x y
  says_both = (
    with_answer (with_answer d x a) y b,
    two u ∙ ap (λ w. w u) (step_here t m u (λ v. with_answer v y b) (with_answer d x a) first) ∙ with_at_here t m u
        (Some (Some (with_answer (with_answer d x a) y b))),
    still_said (body_with d.body x a) y b x (subst IsSome (sym (said_here (content_numbered t u) d.body x a directory)) refl),
    subst IsSome
        (sym (said_here (content_numbered t u) (body_with d.body x a) y b (content_said (content_numbered t u) d.body x a ∙ directory)))
        refl,
  )

-- a node of a directory
pub directory_over : (t : Tree) (c m : Upper) (u : ℕ) → IsSomeAnd (layers t c u) (λ d. IsDirectory d.file) → SameLayers t c m
    → (h : HasNode m u) → content_over (content_numbered t u) h.0.body ≡ None
directory_over t c m u is same h = subst (λ o. IsSomeAnd o (λ d. IsDirectory d.file)) (sym (same.layer u) ∙ ap (layer_at t u) h.1) is

pub some_of : {A : Type 0} (P : A → Type 0) (o : Option A) → IsSomeAnd o P → IsSome o
some_of P None h = absurd h
some_of P (Some x) h = refl
