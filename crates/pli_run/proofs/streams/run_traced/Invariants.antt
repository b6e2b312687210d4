use Rattle.pli_run.proofs.streams.run_traced.Given as goal

abbrev pub ghosts-streamed : goal.ghosts-streamed
ghosts-streamed g a = record { before = g.D.Drain.history a.drain }
