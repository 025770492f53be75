-- The command or the fault that a parse of the words finds. Each command has a word of its own.
use Rattle.std.proofs.Common.{◌≡◌, [], ◌∷◌, true, Some, refl, ◌∙◌, List, Bool, false, Option, None, is_some, map, find, drop, get_or, option_map, inl, inr, ap, sym, All, option_and_then, bytes_eq, arith, ◌⊎◌, subst}
use Rattle.std.proofs.lemmas.Bool.{cases_Bool}
use Rattle.std.specs.Box.{box_value}
use Rattle.clap.specs.Words.{Text, takes, is_simple, is_simple_and_free, Row, Shape, built, found_of, has_subcommand, rows_of, subcommand_name_of, subcommand_of, subcommand_rows_of, IsAmong}
use Rattle.clap.specs.declared.parser.matches.ArgMatches.{ArgMatches, TheViews.{out-ArgMatches, out-SubCommand}}
use Rattle.clap.specs.declared.error.kind.ErrorKind.{ErrorKind, TheVariants.{DisplayHelp, OutOfMemory}}
use Rattle.clap.specs.{Simple.{argument_words, entered, label_of, names_of, rows_at}, Walk.{answers_to, stop_after}}
use Rattle.clap.proofs.OnLiterals.{clap_on_literals}
use Rattle.spki_words.specs.declared.commands.Command.{Command, TheVariants.{Canonical, Advanced, Transport, Intersect, Reduce, Check, Explain}}
use Rattle.spki_words.specs.declared.words.WordsFault.{WordsFault, TheVariants.{Refused, Help, Memory}}
use Rattle.spki_words.specs.Words.{word_of, spki, subcommand_in, commands, IsFault, IsFaultOf, faults_of}

-- ---- what `clap` reads in the program's name and the word of a command, by computation

pub simple : is_simple spki ≡ true
simple = refl

pub simple_and_free : is_simple_and_free spki ≡ true
simple_and_free = refl

pub word_taken : (program : Text) (c : Command) → takes spki (program ∷ word_of c ∷ []) ≡ true
unfolding clap_on_literals
word_taken program Canonical = refl
word_taken program c = refl

pub word_read : (program : Text) (c : Command) → subcommand_in (program ∷ word_of c ∷ []) ≡ Some (word_of c)
unfolding clap_on_literals
word_read program Canonical = refl
word_read program c = refl

-- ---- the subcommand that a parse meets is one of the commands

-- the name is a command's word
abbrev IsWord : Option Text → Type 0
IsWord name = (c : Command) × (name ≡ Some (word_of c))

abbrev name_in : Option (Text × List Row) → Option Text
name_in = option_map (λ r. r.0)

abbrev name_found : List Shape → (Shape → Bool) → List Text → Option Text
name_found shapes test words = name_in (option_map (λ s. rows_at s words) (find test shapes))

found_is_word : (shapes : List Shape) (cs : List Command) (test : Shape → Bool) (words : List Text)
    → map (λ (s : Shape). s.name) shapes ≡ map word_of cs → is_some (name_found shapes test words) ≡ true → IsWord (name_found shapes test words)
found_is_word [] cs test words names found = let g : false ≡ true = found in absurd cc
found_is_word (s ∷ shapes) [] test words names found =
    let g : s.name ∷ map (λ (t : Shape). t.name) shapes ≡ [] = names in absurd cc
found_is_word (s ∷ shapes) (c ∷ cs) test words names found = elim (cases_Bool (test s)) [
  | inl e ↦ (c, rw e (ap (λ (ns : List Text). Some (get_or ns 0 [])) names))
  | inr e ↦
      let later : is_some (name_found shapes test words) ≡ true = rw e at found in
      rw e (found_is_word shapes cs test words (ap (λ (ns : List Text). drop 1 ns) names) later)
]

entered_is_word : (stop : Option (Text × List Text)) → is_some (name_in (entered (built spki) stop)) ≡ true → IsWord (name_in (entered (built spki) stop))
entered_is_word None met = let g : false ≡ true = met in absurd cc
entered_is_word (Some p) met = found_is_word (built spki).subs commands (λ s. answers_to p.0 (label_of s)) p.1 refl met

name_of_rows : {X : Type 0} (o : Option X) (name : X → Text) (rows : X → List Row) → option_map name o ≡ name_in (option_map (λ x. (name x, rows x)) o)
name_of_rows None name rows = refl
name_of_rows (Some x) name rows = refl

some_kept : {X Y : Type 0} (f : X → Y) (o : Option X) → is_some (option_map f o) ≡ is_some o
some_kept f None = refl
some_kept f (Some x) = refl

pub name_read : (m : ArgMatches) (words : List Text) → subcommand_rows_of m ≡ subcommand_of spki words → subcommand_name_of m ≡ subcommand_in words
name_read m words rows =
    name_of_rows (out-ArgMatches m).subcommand (λ b. (out-SubCommand (box_value b)).name.now) (λ b. rows_of (found_of (out-SubCommand (box_value b)).matches))
    ∙ ap name_in rows

pub word_met : (m : ArgMatches) (words : List Text) → subcommand_rows_of m ≡ subcommand_of spki words → has_subcommand m ≡ true
    → (c : Command) × (subcommand_name_of m ≡ Some (word_of c))
word_met m words rows has =
    let name = name_read m words rows in
    let some : is_some (subcommand_name_of m) ≡ true = some_kept (λ b. (out-SubCommand (box_value b)).name.now) (out-ArgMatches m).subcommand ∙ has in
    let stop = stop_after (built spki).top.rules (names_of (built spki)) (argument_words spki words) in
    let word = entered_is_word stop (ap is_some (sym name) ∙ some) in
    (word.0, name ∙ word.1)

-- ---- the list of commands has each, and no two have one word

pub each_command : (P : Command → Type 0) → All P commands → (c : Command) → P c
each_command P all Canonical = all 0 Canonical (omega arith)
each_command P all Advanced = all 1 Canonical (omega arith)
each_command P all Transport = all 2 Canonical (omega arith)
each_command P all Intersect = all 3 Canonical (omega arith)
each_command P all Reduce = all 4 Canonical (omega arith)
each_command P all Check = all 5 Canonical (omega arith)
each_command P all Explain = all 6 Canonical (omega arith)

finds_itself : (c : Command) → find (λ d. bytes_eq (word_of d) (word_of c)) commands ≡ Some c
finds_itself Canonical = refl
finds_itself c = refl

pub same_command : (a b : Command) → Some (word_of a) ≡ Some (word_of b) → a ≡ b
same_command a b e =
    let h : Some a ≡ Some b = sym (finds_itself a) ∙ ap (option_and_then (λ w. find (λ d. bytes_eq (word_of d) w) commands)) e ∙ finds_itself b in
    cc

-- ---- the fault that an error of a kind becomes

pub fault_found : (words : List Text) (kind : ErrorKind) (fault : WordsFault) → (kind ≡ OutOfMemory) ⊎ IsAmong kind (faults_of words) → IsFault kind fault
    → IsFaultOf words fault
fault_found words kind (Refused text) (inl e) h = absurd (h.1 e)
fault_found words kind (Refused text) (inr among) h = (kind, h.0, among)
fault_found words kind (Help text) (inl e) h = let g : DisplayHelp ≡ OutOfMemory = sym h ∙ e in absurd cc
fault_found words kind (Help text) (inr among) h = subst (λ k. IsAmong k (faults_of words)) h among
fault_found words kind Memory found h = tt

pub memory_alone : (kind : ErrorKind) (fault : WordsFault) → kind ≡ OutOfMemory → IsFault kind fault → fault ≡ Memory
memory_alone kind (Refused text) e h = absurd (h.1 e)
memory_alone kind (Help text) e h = let g : DisplayHelp ≡ OutOfMemory = sym h ∙ e in absurd cc
memory_alone kind Memory e h = refl
