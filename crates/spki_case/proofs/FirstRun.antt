-- The worked example of the first run: its value is written as its text, and is built as a case.
use Rattle.std.{proofs.Common.{◌≡◌, [], ◌∷◌, ◌++◌, refl}, specs.Prelude.{codes}}
use Rattle.sexpr_core.specs.Value.{Value, plain, canon, verbatim, decimal, depth}
use Rattle.spki_cert.specs.declared.principal.Policy.TheVariants.{Open}
use Rattle.spki_case.specs.Case.{Parts, headed, case_value}

key_a : Value
key_a = headed (codes "public-key") (headed (codes "test") (plain (codes "a") ∷ []) ∷ [])

entry : Value
entry = headed (codes "entry") (key_a ∷ headed (codes "tag") (headed (codes "ftp") (plain (codes "host") ∷ []) ∷ []) ∷ [])

first_run : Parts
first_run = record {
  entries = entry ∷ [];
  rows = [];
  items = [];
  key = key_a;
  request = headed (codes "ftp") (plain (codes "host") ∷ plain (codes "dir") ∷ []);
  at = plain (codes "2024-01-01_00:00:00");
  policy = Open;
}

first_run_text : canon (case_value first_run)
    ≡ codes "(4:case(3:acl(5:entry(10:public-key(4:test1:a))(3:tag(3:ftp4:host))))"
    ++ codes "(8:accepted)(8:sequence)(3:key(10:public-key(4:test1:a)))(7:request(3:ftp4:host3:dir))"
    ++ codes "(2:at19:2024-01-01_00:00:00))"
unfolding first_run entry key_a verbatim decimal
first_run_text = refl

first_run_depth : depth (case_value first_run) ≡ 5
unfolding first_run entry key_a
first_run_depth = refl
