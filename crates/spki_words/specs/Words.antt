-- The commands, and how `clap` parses the words of a command line. The first word is the program's name.
use Rattle.std.specs.Prelude.{ℕ, List, [], ◌∷◌, codes, ◌≡◌, ◌≢◌, ⊤, true, false, Option, fold, option_map}
use Rattle.spki_words.specs.declared.commands.Command.{Command, TheVariants.{Canonical, Advanced, Transport, Intersect, Reduce, Check, Explain}}
use Rattle.spki_words.specs.declared.words.WordsFault.{WordsFault, TheVariants.{Refused, Help, Memory}}
use Rattle.clap.specs.declared.error.kind.ErrorKind.{ErrorKind, TheVariants.{DisplayHelp, OutOfMemory}}
use Rattle.clap.specs.declared.builder.command.Command.TheViews.{out-Command as fields_of}
use Rattle.clap.specs.{Words.{App, Kinds, IsAmong, Text, new_app, with_subcommand, subcommand_of, fault_of, app_of}, Simple.{on_top}}
use Rattle.clap.specs.declared.builder.command.Command as clap

-- ---- the commands and their words

-- the word of a command
abbrev pub word_of : Command → List ℕ
word_of Canonical = codes "canonical"
word_of Advanced = codes "advanced"
word_of Transport = codes "transport"
word_of Intersect = codes "intersect"
word_of Reduce = codes "reduce"
word_of Check = codes "check"
word_of Explain = codes "explain"

-- all commands, each once
abbrev pub commands : List Command
commands = Canonical ∷ Advanced ∷ Transport ∷ Intersect ∷ Reduce ∷ Check ∷ Explain ∷ []

-- ---- how `clap` parses words

-- `spki` without its subcommands, one of which must be given; help is a flag and no subcommand
abbrev pub bare : App
bare = on_top (λ s. record s { subcommand_required = true; disable_help_subcommand = true }) (new_app (codes "spki"))

-- a command as a subcommand: it takes no arguments
abbrev pub leaf : Command → App
leaf command = new_app (word_of command)

-- a program with one more subcommand
abbrev pub with_command : App → Command → App
with_command program command = with_subcommand program (leaf command).top

-- the program `spki`: its subcommands are the commands
abbrev pub spki : App
spki = fold with_command bare commands

-- the subcommand that `clap` finds in the words
abbrev pub subcommand_in : List Text → Option Text
subcommand_in words = option_map (λ s. s.0) (subcommand_of spki words)

-- the kinds of error of the first word that `clap` refuses, or of what is missing; none if it accepts the words
abbrev pub faults_of : List Text → Kinds
faults_of words = fault_of spki words

-- the fault is one that `clap` finds: a request for help, or another
abbrev pub IsFaultOf : List Text → WordsFault → Type 0
IsFaultOf words (Refused text) = (kind : ErrorKind) × (kind ≢ DisplayHelp) × IsAmong kind (faults_of words)
IsFaultOf words (Help text) = IsAmong DisplayHelp (faults_of words)
IsFaultOf words Memory = ⊤

-- the exit status
abbrev pub code_of : WordsFault → ℕ
code_of (Refused text) = 2
code_of (Help text) = 0
code_of Memory = 2

-- the fault that an error of this kind becomes
abbrev pub IsFault : ErrorKind → WordsFault → Type 0
IsFault kind (Refused text) = (kind ≢ DisplayHelp) × (kind ≢ OutOfMemory)
IsFault kind (Help text) = kind ≡ DisplayHelp
IsFault kind Memory = ⊤

-- a command of `clap` parses words as this program does, and has no global arguments
abbrev pub IsProgram : App → clap.Command → Type 0
IsProgram app program = (app_of program ≡ app) × ((fields_of program).has_globals ≡ false)
