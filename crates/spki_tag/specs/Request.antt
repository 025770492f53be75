-- Requests, and which requests a tag contains (RFC 2693, section 6.3.1).
use Rattle.std.specs.Prelude.{◌≢◌, ℕ, ◌+◌, ◌<◌, List, [], ◌∷◌, All, codes}
use Rattle.sexpr_core.specs.Value.{Value, Values, plain}
use Rattle.sexpr_core.specs.Value as value

mutual
  -- A string, or a list of a head and further requests. There are no display hints.
  pub data Request : Type 0 where
    string : List ℕ → Request
    list : List ℕ → Requests → Request

  pub data Requests : Type 0 where
    none : Requests
    more : Request → Requests → Requests

-- the requests of a list, in order
abbrev pub requests : List Request → Requests
requests [] = none
requests (g ∷ gs) = more g (requests gs)

-- octets are numbers below 256
abbrev pub AreOctets : List ℕ → Type 0
AreOctets octets = All (λ octet. octet < 256) octets

-- What a plain list begins with: any string except the star, which begins the other tags.
abbrev pub IsHead : List ℕ → Type 0
IsHead head = head ≢ codes "*"

abbrev mutual
  -- Octets are below 256, and no list begins with the star.
  pub IsRequest : Request → Type 0
  IsRequest (string octets) = AreOctets octets
  IsRequest (list head further) = AreOctets head × IsHead head × AreRequests further

  -- the same for each of several requests
  pub AreRequests : Requests → Type 0
  AreRequests none = Unit {0}
  AreRequests (more g gs) = IsRequest g × AreRequests gs

abbrev mutual
  -- the S-expression of a request
  pub request_value : Request → Value
  request_value (string octets) = plain octets
  request_value (list head further) = value.list (value.more (plain head) (request_values further))

  -- the S-expressions of requests, in order
  pub request_values : Requests → Values
  request_values none = value.none
  request_values (more g gs) = value.more (request_value g) (request_values gs)

abbrev mutual
  -- the number of strings and lists in a request
  pub request_size : Request → ℕ
  request_size (string octets) = 1
  request_size (list head further) = 2 + requests_size further

  -- the sum of the sizes of requests
  pub requests_size : Requests → ℕ
  requests_size none = 0
  requests_size (more g gs) = request_size g + requests_size gs
