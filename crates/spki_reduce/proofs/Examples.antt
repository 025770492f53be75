-- The definitions at the values of worked examples.
use Rattle.std.proofs.Common.{◌≡◌, ℕ, List, [], ◌∷◌, true, false, None, refl, sym, ◌∙◌, codes, rules}
use Rattle.spki_cert.specs.declared.{principal.{Policy.TheVariants.{Open}, Principal.TheVariants.{Key}}, window.Window.{Window}}
use Rattle.spki_tag.specs.{Tag.{star}, Request.{Request}}
use Rattle.spki_reduce.specs.Reduction.{FiveTuple, FourTuple, Tuple, own, key, five, four, Joins, Delegate, delegated, Tree, leaf, join, leaves, Derives, from_left, Supports}
use Rattle.spki_reduce.specs.{declared.fold.Cause.TheVariants.{NotTheName, NoDelegation}, Joining.{Stops}}
use Rattle.spki_reduce.proofs.Derivations.{bracketed}

-- the keys a, b and c
abbrev ka : List ℕ
ka = codes "(10:public-key(4:test1:a))"

abbrev kb : List ℕ
kb = codes "(10:public-key(4:test1:b))"

abbrev kc : List ℕ
kc = codes "(10:public-key(4:test1:c))"

abbrev always : Window
always = record { not_before = None; not_after = None }

-- ---- linked-names

-- (entry (name KA friends bob) (tag (*)))
abbrev entry : FiveTuple
entry = record {
  issuer = own;
  principal = Key ka;
  names = codes "friends" ∷ codes "bob" ∷ [];
  delegation = false;
  tags = star ∷ [];
  windows = always ∷ [];
}

-- (cert (issuer (name KA friends)) (subject KB))
abbrev friends : FourTuple
friends = record { key = ka; name = codes "friends"; principal = Key kb; names = []; windows = always ∷ [] }

-- (cert (issuer (name KB bob)) (subject KC))
abbrev bob : FourTuple
bob = record { key = kb; name = codes "bob"; principal = Key kc; names = []; windows = always ∷ [] }

-- the entry with its first name resolved, and with both
abbrev partly : FiveTuple
partly = record { issuer = own; principal = Key kb; names = codes "bob" ∷ []; delegation = false; tags = star ∷ []; windows = always ∷ always ∷ [] }

abbrev wholly : FiveTuple
wholly = record { issuer = own; principal = Key kc; names = []; delegation = false; tags = star ∷ []; windows = always ∷ always ∷ always ∷ [] }

linked_names : (request : Request) (moment : List ℕ)
    → Supports Open (from_left (five entry) (four friends ∷ four bob ∷ [])) kc request moment
linked_names request moment = record {
  root = wholly;
  derived = (
    five partly,
    four bob,
    (five entry, four friends, refl, refl, record { begins = record { rest = codes "bob" ∷ []; named = refl; name = refl }; result_is = refl }),
    refl,
    record { begins = record { rest = []; named = refl; name = refl }; result_is = refl },
  );
  grants = record { issuer = refl; whole = refl; named = refl; asked = refl; timely = refl };
}

-- what two leaves become
two : (a b r : Tuple) → Derives Open (join (leaf a) (leaf b)) r → Joins Open a b r
two a b r d = rw (← d.2, ← d.3) d.4

-- the entry's principal is not the key whose name bob is
misfit : (r : Tuple) → Joins Open (five entry) (four bob) r → ⊥
misfit (five r) h = let e : false ≡ true = h.begins.named in cc
misfit (four r) h = h

-- With the two certificates in the other order there is no derivation, in no bracketing.
linked_names-swapped : (tree : Tree) (root : Tuple) → leaves tree ≡ five entry ∷ four bob ∷ four friends ∷ []
    → ¬ Derives Open tree root
linked_names-swapped tree root e d =
    let left = bracketed Open tree root _ _ d e in
    misfit left.0 (two (five entry) (four bob) left.0 left.2)

-- So the chain stops at its first step.
linked_names-stops : Stops Open (five entry) (four bob) NotTheName
linked_names-stops b = let e : false ≡ true = b.named in cc

-- ---- names behind names

-- (cert (issuer (name KA friends)) (subject (name KB al)))
abbrev friends_of_al : FourTuple
friends_of_al = record { key = ka; name = codes "friends"; principal = Key kb; names = codes "al" ∷ []; windows = always ∷ [] }

-- (name KB al bob)
abbrev al_bob : FiveTuple
al_bob = record {
  issuer = own;
  principal = Key kb;
  names = codes "al" ∷ codes "bob" ∷ [];
  delegation = false;
  tags = star ∷ [];
  windows = always ∷ always ∷ [];
}

names_behind_names : Joins Open (five entry) (four friends_of_al) (five al_bob)
names_behind_names = record { begins = record { rest = codes "bob" ∷ []; named = refl; name = refl }; result_is = refl }

-- ---- two definitions of names

-- (cert (issuer (name KA friends)) (subject (name KB bob)))
abbrev friends_of_friends : FourTuple
friends_of_friends = record { key = ka; name = codes "friends"; principal = Key kb; names = codes "bob" ∷ []; windows = always ∷ [] }

-- (cert (issuer (name KA friends)) (subject KC)), within both windows
abbrev friends_linked : FourTuple
friends_linked = record { key = ka; name = codes "friends"; principal = Key kc; names = []; windows = always ∷ always ∷ [] }

linked_definitions : Joins Open (four friends_of_friends) (four bob) (four friends_linked)
linked_definitions = record { begins = record { rest = []; named = refl; name = refl }; result_is = refl }

-- ---- delegation

-- (entry KA (propagate) (tag (*)))
abbrev root_entry : FiveTuple
root_entry = record { issuer = own; principal = Key ka; names = []; delegation = true; tags = star ∷ []; windows = always ∷ [] }

-- (cert (issuer KA) (subject KB) (tag (*)))
abbrev first_cert : FiveTuple
first_cert = record { issuer = key ka; principal = Key kb; names = []; delegation = false; tags = star ∷ []; windows = always ∷ [] }

-- (cert (issuer KB) (subject KC) (tag (*)))
abbrev second_cert : FiveTuple
second_cert = record { issuer = key kb; principal = Key kc; names = []; delegation = false; tags = star ∷ []; windows = always ∷ [] }

delegation : (request : Request) (moment : List ℕ)
    → Supports Open (from_left (five root_entry) (five first_cert ∷ [])) kb request moment
delegation request moment = record {
  root = delegated root_entry first_cert;
  derived = (
    five root_entry,
    five first_cert,
    refl,
    refl,
    record { issues = record { holder = ka; issued = refl; is_for = record { whole = refl; named = refl } }; allowed = refl; result_is = refl },
  );
  grants = record { issuer = refl; whole = refl; named = refl; asked = refl; timely = refl };
}

-- The second certificate does not join what the first one made of the entry, since that may not be delegated.
delegation-stops : Stops Open (five (delegated root_entry first_cert)) (five second_cert) NoDelegation
delegation-stops = (record { holder = kb; issued = refl; is_for = record { whole = refl; named = refl } }, refl)

-- an authorization that may not be delegated joins no authorization after it
undelegated : (left right result : FiveTuple) → Delegate Open left right result → left.delegation ≡ false → ⊥
undelegated left right result h e = let k : true ≡ false = sym h.allowed ∙ e in cc

-- what the first certificate becomes cannot be delegated
passed_on : (a b r : Tuple) → a ≡ five root_entry → b ≡ five first_cert → Joins Open a b r → (c s : Tuple) → c ≡ five second_cert → Joins Open r c s
    → ⊥
passed_on a b (five r) e f h c (five s) g k = search (rules, undelegated, delegation)
passed_on a b (five r) e f h c (four s) g k = rw g at k
passed_on a b (four r) e f h c s g k = rw (e, f) at h

-- The key b may not authorize in turn.
delegation-ended : (tree : Tree) (root : Tuple) → leaves tree ≡ five root_entry ∷ five first_cert ∷ five second_cert ∷ [] → Derives Open tree root
    → ⊥
delegation-ended tree root e d =
    let left = bracketed Open tree root _ _ d e in
    let first = left.2 in
    passed_on first.0 first.1 left.0 first.2 first.3 first.4 left.1 root left.3 left.4
