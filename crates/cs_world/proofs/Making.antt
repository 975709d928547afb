-- What a registry replies to a state that was made for it.
use Rattle.std.proofs.Common.{refl, subst, arith, ◌≡◌, ℕ, ◌<◌, true, false, nat_lt, length}
use Rattle.std.proofs.lemmas.Bool.Decides.{nat_tests}
use Rattle.cs_journal.specs.Runs.{RunOf}
use Rattle.cs_registry.specs.Publishing.{with_published}
use Rattle.cs_registry.specs.Registries.{Registry, is_published}
use Rattle.cs_world.specs.declared.reply.Reply.{Reply}
use Rattle.cs_world.specs.declared.reply.Reply.TheVariants.{Published, NotPublished}
use Rattle.cs_world.specs.declared.reply.StateFault.TheVariants.{Twice, Memory}
use Rattle.cs_world.specs.Marks.{WorldMark, Below, NoPass, NoKeeping}
use Rattle.cs_world.specs.Publishing.{publish_step}

module _ (old new : Registry RunOf) (number made : ℕ) (e : made ≡ number) (low : made < length old.scene.plan) where
  inside : nat_lt made (length old.scene.plan) ≡ true
  inside = grind (arith, nat_tests)

  abbrev pub Comes : Reply → WorldMark → ℕ → Type 0
  Comes reply mark n = ◌≡◌ {A = Reply × Registry RunOf} (reply, new) (publish_step old n mark)

  pub is_kept : is_published old made ≡ false → new ≡ with_published old made → Comes Published (Below NoPass) number
  is_kept free is = subst (Comes Published (Below NoPass)) e (rw (inside, free, is) refl)

  pub is_twice : is_published old made ≡ true → new ≡ old → Comes (NotPublished Twice) (Below NoPass) number
  is_twice there is = subst (Comes (NotPublished Twice) (Below NoPass)) e (rw (inside, there, is) refl)

  pub is_short : is_published old made ≡ false → new ≡ old → Comes (NotPublished Memory) NoKeeping number
  is_short free is = subst (Comes (NotPublished Memory) NoKeeping) e (rw (inside, free, is) refl)
