-- Tags and requests as lists of labels, by which proofs distinguish them. The label of a value comes after those of its
-- members, and the members are in order from the last to the first.
use Rattle.std.specs.Prelude.{◌≡◌, ℕ, zero, suc, List, [], ◌∷◌, Option, None, Bool, refl}
use Rattle.std.specs.Coded.{Coded, code_by, coded×, coded_ℕ, coded_bool, coded_list, coded_option}
use Rattle.std.proofs.Common.{ap, ◌∙◌}
use Rattle.spki_tag.specs.Request.{Request, Requests}
use Rattle.spki_tag.specs.Tag.{Tag, Tags, Limit, Ordering, alpha, time, date, star, string, prefix, range, list, set, none, more}
use Rattle.spki_tag.specs.Request as request

-- ---- labels

-- a limit as a pair: whether it is strict, and its octets
abbrev pub limit_code : Coded Limit
limit_code =
    code_by (Bool × List ℕ) (coded× coded_bool (coded_list coded_ℕ)) (λ l. (l.strict, l.octets))
    (λ p. record { strict = p.0; octets = p.1 }) (λ _. refl)

-- what a label means, its octets, and the limits of a range
pub record Label : Type 0 where
  pub kind : ℕ
  pub octets : List ℕ
  pub low : Option Limit
  pub up : Option Limit

-- a label as its four fields
abbrev pub label_code : Coded Label
label_code =
    code_by (ℕ × (List ℕ × (Option Limit × Option Limit)))
    (coded× coded_ℕ (coded× (coded_list coded_ℕ) (coded× (coded_option limit_code) (coded_option limit_code))))
    (λ l. (l.kind, (l.octets, (l.low, l.up))))
    (λ p. record { kind = p.0; octets = p.1.0; low = p.1.1.0; up = p.1.1.1 })
    (λ _. refl)

-- a label without limits
abbrev label : ℕ → List ℕ → Label
label kind octets = record { kind = kind; octets = octets; low = None; up = None }

-- the kind of the label of a range, by its ordering
abbrev ordering_kind : Ordering → ℕ
ordering_kind alpha = 6
ordering_kind time = 7
ordering_kind date = 8

-- ---- tags

abbrev mutual
  tag_labels : Tag → List Label → List Label
  tag_labels star rest = label 1 [] ∷ rest
  tag_labels (string octets) rest = label 2 octets ∷ rest
  tag_labels (prefix octets) rest = label 3 octets ∷ rest
  tag_labels (range ordering low up) rest = record { kind = ordering_kind ordering; octets = []; low = low; up = up } ∷ rest
  tag_labels (list head further) rest = label 0 [] ∷ tags_labels further (label 4 head ∷ rest)
  tag_labels (set members) rest = label 0 [] ∷ tags_labels members (label 5 [] ∷ rest)

  tags_labels : Tags → List Label → List Label
  tags_labels none rest = rest
  tags_labels (more t ts) rest = tags_labels ts (tag_labels t rest)

-- a tag is put before those on top of the stack
abbrev put : Tag → List Tags → List Tags
put t [] = []
put t (top ∷ below) = more t top ∷ below

-- the tags on top become one tag of the level below
abbrev fold_top : (Tags → Tag) → List Tags → List Tags
fold_top f [] = []
fold_top f (top ∷ below) = put (f top) below

-- how a label changes the tags that were made so far
abbrev tag_step : ℕ → Label → List Tags → List Tags
tag_step zero l made = none ∷ made
tag_step (suc zero) l made = put star made
tag_step (suc (suc zero)) l made = put (string l.octets) made
tag_step (suc (suc (suc zero))) l made = put (prefix l.octets) made
tag_step (suc (suc (suc (suc zero)))) l made = fold_top (list l.octets) made
tag_step (suc (suc (suc (suc (suc zero))))) l made = fold_top set made
tag_step (suc (suc (suc (suc (suc (suc zero)))))) l made = put (range alpha l.low l.up) made
tag_step (suc (suc (suc (suc (suc (suc (suc zero))))))) l made = put (range time l.low l.up) made
tag_step (suc (suc (suc (suc (suc (suc (suc (suc n)))))))) l made = put (range date l.low l.up) made

-- the tags that several labels make, on top of those that were made before
abbrev tags_made : List Label → List Tags → List Tags
tags_made [] made = made
tags_made (l ∷ ls) made = tags_made ls (tag_step l.kind l made)

-- the first tag on top of the stack
abbrev first_tag : List Tags → Tag
first_tag [] = star
first_tag (none ∷ below) = star
first_tag (more t ts ∷ below) = t

mutual
  pub made-tag : (t : Tag) (rest : List Label) (top : Tags) (below : List Tags)
      → tags_made (tag_labels t rest) (top ∷ below) ≡ tags_made rest (more t top ∷ below)
  made-tag star rest top below = refl
  made-tag (string octets) rest top below = refl
  made-tag (prefix octets) rest top below = refl
  made-tag (range alpha low up) rest top below = refl
  made-tag (range time low up) rest top below = refl
  made-tag (range date low up) rest top below = refl
  made-tag (list head further) rest top below = made-tags further (label 4 head ∷ rest) (top ∷ below)
  made-tag (set members) rest top below = made-tags members (label 5 [] ∷ rest) (top ∷ below)

  pub made-tags : (ts : Tags) (rest : List Label) (below : List Tags)
      → tags_made (tags_labels ts rest) (none ∷ below) ≡ tags_made rest (ts ∷ below)
  made-tags none rest below = refl
  made-tags (more t ts) rest below = made-tags ts (tag_labels t rest) below ∙ made-tag t rest ts below

-- a tag as its labels
abbrev pub tag_code : Coded Tag
tag_code =
    code_by (List Label) (coded_list label_code) (λ t. tag_labels t []) (λ ls. first_tag (tags_made ls (none ∷ [])))
    (λ t. ap first_tag (made-tag t [] none []))

-- ---- requests

abbrev mutual
  request_labels : Request → List (ℕ × List ℕ) → List (ℕ × List ℕ)
  request_labels (request.string octets) rest = (1, octets) ∷ rest
  request_labels (request.list head further) rest = (0, []) ∷ requests_labels further ((2, head) ∷ rest)

  requests_labels : Requests → List (ℕ × List ℕ) → List (ℕ × List ℕ)
  requests_labels request.none rest = rest
  requests_labels (request.more g gs) rest = requests_labels gs (request_labels g rest)

-- a request is put before those on top of the stack
abbrev put_request : Request → List Requests → List Requests
put_request g [] = []
put_request g (top ∷ below) = request.more g top ∷ below

-- the requests on top become one request of the level below
abbrev fold_requests : (Requests → Request) → List Requests → List Requests
fold_requests f [] = []
fold_requests f (top ∷ below) = put_request (f top) below

-- how a label, a kind and octets, changes the requests that were made so far
abbrev request_step : ℕ → List ℕ → List Requests → List Requests
request_step zero octets made = request.none ∷ made
request_step (suc zero) octets made = put_request (request.string octets) made
request_step (suc (suc n)) octets made = fold_requests (request.list octets) made

-- the requests that several labels make, on top of those that were made before
abbrev requests_made : List (ℕ × List ℕ) → List Requests → List Requests
requests_made [] made = made
requests_made (l ∷ ls) made = requests_made ls (request_step l.0 l.1 made)

-- the first request on top of the stack
abbrev first_request : List Requests → Request
first_request [] = request.string []
first_request (request.none ∷ below) = request.string []
first_request (request.more g gs ∷ below) = g

mutual
  pub made-request : (g : Request) (rest : List (ℕ × List ℕ)) (top : Requests) (below : List Requests)
      → requests_made (request_labels g rest) (top ∷ below) ≡ requests_made rest (request.more g top ∷ below)
  made-request (request.string octets) rest top below = refl
  made-request (request.list head further) rest top below = made-requests further ((2, head) ∷ rest) (top ∷ below)

  pub made-requests : (gs : Requests) (rest : List (ℕ × List ℕ)) (below : List Requests)
      → requests_made (requests_labels gs rest) (request.none ∷ below) ≡ requests_made rest (gs ∷ below)
  made-requests request.none rest below = refl
  made-requests (request.more g gs) rest below =
      made-requests gs (request_labels g rest) below ∙ made-request g rest gs below

-- a request as its labels
abbrev pub request_code : Coded Request
request_code =
    code_by (List (ℕ × List ℕ)) (coded_list (coded× coded_ℕ (coded_list coded_ℕ))) (λ g. request_labels g [])
    (λ ls. first_request (requests_made ls (request.none ∷ [])))
    (λ g. ap first_request (made-request g [] request.none []))
