-- The words so far.
use Rattle.std.{proofs.Common.{◌∷◌, take}, specs.List.{flat_map}}
use Rattle.spki_guard.proofs.lines.print_line.Given as goal

abbrev pub invariant-loop-word : goal.invariant-loop-word
invariant-loop-word g l = g.S.Sink.takes l.initial.sink (flat_map (λ w. 32 ∷ w.now) (take l.word-index l.words)) l.sink
