-- A number is that of one command at most.
use Rattle.std.{proofs.Common.{◌≡◌, List, [], ◌∷◌, Some, refl, sym, ap, ◌∙◌, rules}, specs.Prelude.{slice_get}}
use Rattle.spki_words.specs.declared.commands.Command.{Command, TheVariants.{Canonical, Advanced, Transport, Intersect, Reduce, Check, Explain}}
use Rattle.spki_c.specs.Results.{number_of}

abbrev all : List Command
all = Canonical ∷ Advanced ∷ Transport ∷ Intersect ∷ Reduce ∷ Check ∷ Explain ∷ []

at_number : (c : Command) → slice_get all (number_of c) ≡ Some c
at_number Canonical = refl
at_number c = refl

pub one_command : (c d : Command) → number_of c ≡ number_of d → c ≡ d
one_command c d e = search (rules, at_number, slice_get, all)
