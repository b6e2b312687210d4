-- Runs between a feed and a drain: what they read and wrote, and what they show.
use Rattle.std.specs.Prelude.{◌≡◌, ℕ, Bool, true, List, [], ◌++◌, Result}
use Rattle.pli_edit.specs.Drained.{taken_since, IsDrained}
use Rattle.pli_edit.specs.Feeding.{first_fed, is_broken, Agrees, Fed, Reading, Reads}
use Rattle.pli_edit.specs.Histories.{History}
use Rattle.pli_meaning.specs.declared.outcome.Outcome.{Outcome}
use Rattle.pli_runtime.specs.Seen.{fault_of}
use Rattle.pli_run.specs.declared.run.RunFault.{RunFault}
use Rattle.pli_run.specs.Running.{stream_fault_of}

-- A feed and a drain with their calls before a run and behind it. Reads were made one behind another, none behind one
-- that gave nothing or failed. The drain took the output, or a part of it from its front where a write failed or took
-- nothing; the answer tells just which of the two failed. And the claim is true of the output, of what the drain took
-- of it, and of each input that begins with what was read, and is just that where its end was seen.
pub record IsStreamed (feed drain : History) (ran : Result Outcome RunFault) (feed' drain' : History)
    (claim : (input output taken : List ℕ) → Type 0) : Type 0 where
  pub fed : Fed
  pub readings : List Reading
  pub reads : Reads (λ _. true) [] readings (first_fed feed) fed
  pub given : feed' ≡ fed.history
  pub output : List ℕ
  pub write_failed : Bool
  pub taken : IsDrained drain output write_failed drain'
  pub faults : stream_fault_of ran ≡ fault_of (is_broken fed.standing) write_failed
  pub claimed : (input : List ℕ) → Agrees fed (feed.bytes ++ input) →
      claim input output (taken_since drain drain')
