-- The board after a master's run is the one after its samples.
use Rattle.std.proofs.Common.{◌≡◌, ℕ, ◌<◌, ◌≤◌, true, List, [], length, map, sym, refl, ap, ◌∙◌}
use Rattle.std.proofs.lemmas.Bool.{lt-leb, le-leb}
use Rattle.refusals.specs.Told.{Told, refused}
use Rattle.part.specs.Ops.{Ops}
use Rattle.board.specs.declared.board.Board.{Board}
use Rattle.board.specs.declared.call.Call.TheVariants.{Sample}
use Rattle.board.specs.Answers.{after_all}
use Rattle.board.specs.Runs.{SampledBy}
use Rattle.board.proofs.Splices.{after_leads, leads_none}
use Rattle.controller.specs.Jobs.{giving, all_samples, sampling, with_room}
use Rattle.controller.specs.Master.{Master, ended, gives, after_sample, reads, run, samples_of}

module _ {S : Type 0} (ops : Ops S) where
  pub after_samples : {A : Type 0} (m : Master A) (b : Board S) → (run ops m b).0 ≡ after_all ops b (map (λ x. Sample x) (samples_of ops m b))
  unfolding after_sample
  after_samples (ended a) b = refl
  after_samples (gives x k) b = after_samples (k (reads ops b x)) (after_sample ops b x)

  pub run_sampled : {A : Type 0} (m : Master A) (b c : Board S) → (run ops m b).0 ≡ c → SampledBy ops b (samples_of ops m b) c
  run_sampled m b c e = after_leads ops b c _ (sym e ∙ after_samples m b)

  -- from what a job promises of its run, or one that is the same
  pub job_sampled : {A : Type 0} (m : Master A) (b c : Board S) (a : A) → run ops m b ≡ (c, a) → SampledBy ops b (samples_of ops m b) c
  job_sampled m b c a e = run_sampled m b c (ap (λ r. r.0) e)

  pub same_sampled : {A : Type 0} (m n : Master A) (b c : Board S) (a : A) → m ≡ n → run ops m b ≡ (c, a) → SampledBy ops b (samples_of ops n b) c
  same_sampled m n b c a e f = job_sampled n b c a (ap (λ k. run ops k b) (sym e) ∙ f)

  -- a job that is refused before its first sample
  pub none_sampled : {A : Type 0} (m : Master A) (b : Board S) (a : A) → m ≡ ended a → SampledBy ops b (samples_of ops m b) b
  none_sampled m b a e = rw e (leads_none ops b)

  pub no_room_sampled : (n room : ℕ) (m : Master (Told (List ℕ))) (b : Board S) → room < n → SampledBy ops b (samples_of ops (with_room n room m) b) b
  no_room_sampled n room m b h = none_sampled (with_room n room m) b (refused 9 0) (rw (lt-leb n room h) refl)

-- a samples job whose samples are all good and whose levels find room
pub all_given : (xs : List ℕ) (room : ℕ) → all_samples xs ≡ true → length xs ≤ room → giving xs [] ≡ sampling xs room
all_given xs room good h = rw (good, le-leb (length xs) room h) refl
