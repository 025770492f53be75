use Rattle.std.proofs.Common.{◌∙◌, List, map, string_bytes, ap, sym, subst, Ok, Err, inl, inr}
use Rattle.clap.specs.Words.{App, HasKind, Text, takes, is_simple, is_simple_and_free, kind_of, fault_of, subcommand_of}
use Rattle.spki_words.proofs.CommandWords.{same_command, fault_found, memory_alone, name_read, word_met, simple, simple_and_free, word_taken, word_read}
use Rattle.spki_words.specs.Words.{spki, subcommand_in}
use Rattle.spki_words.proofs.words.command_of.Goals as goal

pub found_command-requires : goal.found_command-requires
found_command-requires c =
    let words : List Text = map string_bytes c.args.words.now in
    let app = c.in_ok-program.ensures.0 in
    let rows = (c.in-Ok.ensures.matches (ap is_simple app ∙ simple)).1 ∙ ap (λ (a : App). subcommand_of a words) app in
    let parsed = c.in-Ok.ensures.parsed in
    let needs = parsed.from.needs_subcommand ∙ ap (λ (a : App). a.top.subcommand_required) app in
    word_met c.in-Ok.matches words rows ((parsed.parsed (parsed.from.globals ∙ c.in_ok-program.ensures.1)).checked.subcommand needs)

pub returns-in-Ok-clause-taken : goal.returns-in-Ok-clause-taken
returns-in-Ok-clause-taken c = λ program command is.
    let words : List Text = map string_bytes c.args.words.now in
    let app = c.in_ok-program.ensures.0 in
    let rows = (c.in-Ok.ensures.matches (ap is_simple app ∙ simple)).1 ∙ ap (λ (a : App). subcommand_of a words) app in
    let name = name_read c.in-Ok.matches words rows in
    inl (ap Ok (same_command c.found_command.result command (sym c.found_command.ensures ∙ name ∙ ap subcommand_in is ∙ word_read program command)))

pub returns-in-Ok-clause-faults : goal.returns-in-Ok-clause-faults
returns-in-Ok-clause-faults c =
    let words : List Text = map string_bytes c.args.words.now in
    let app = c.in_ok-program.ensures.0 in
    ap (λ (a : App). fault_of a words) (sym app) ∙ c.in-Ok.ensures.kinds (ap is_simple_and_free app ∙ simple_and_free)

pub returns-in-Err-clause-taken : goal.returns-in-Err-clause-taken
returns-in-Err-clause-taken c = λ program command is.
    let words : List Text = map string_bytes c.args.words.now in
    let app = c.in_ok-program.ensures.0 in
    let kind = c.in-Err.ensures.passes (ap (λ (a : App). takes a words) app ∙ ap (takes spki) is ∙ word_taken program command) in
    inr (ap Err (memory_alone _ c.fault.result kind c.fault.ensures))

pub returns-in-Err-clause-faults : goal.returns-in-Err-clause-faults
returns-in-Err-clause-faults c =
    let words : List Text = map string_bytes c.args.words.now in
    let app = c.in_ok-program.ensures.0 in
    let found = subst (λ (a : App). HasKind (fault_of a words) c.in-Err.error) app (c.in-Err.ensures.kinds (ap is_simple_and_free app ∙ simple_and_free)) in
    fault_found words (kind_of c.in-Err.error) c.fault.result found c.fault.ensures
