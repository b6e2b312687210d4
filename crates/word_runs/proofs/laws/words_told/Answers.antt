use Rattle.block_runs.proofs.PointGrounds.{point_frame}
use Rattle.word_runs.proofs.Words.{begun_telling, number_told, told_among, untold_among, word_at, word_kept}
use Rattle.word_runs.proofs.laws.words_told.Goals as goal

pub returns : goal.returns
returns c =
    record {
      begun = begun_telling;
      number = number_told;
      among = λ k φ φs numbers p waits. told_among k φ φs waits;
      forgets = λ k φ φs numbers p waits. untold_among k φ φs waits;
      kept = λ w code p φ φs n given credits index numbers f known few l there.
          word_kept w code p φ φs _ n given credits f known (few.0, few.2)
          (word_at φ n (point_frame known.0 known.1) few.1) l there;
    }
