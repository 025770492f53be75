-- Each member of a request is smaller than the request.
use Rattle.std.{specs.Prelude.{◌+◌, ◌≤◌, max, List, [], ◌∷◌}, proofs.Common.{arith}}
use Rattle.spki_tag.specs.declared.request.{GroundNode.{GroundNode}, Ground.TheDeep.{deep-GroundNode}}
use Rattle.spki_tag.specs.{Request.{Request, requests, request_size, requests_size}, Grounds.{ground_request}}
use denote.Param.Weighed.{most}
use Rattle.spki_tag.specs.declared.request.GroundNode.TheVariants as source

pub most_le-requests_size : (gs : List Request)
    → most (λ g. request_size g + 1) gs ≤ requests_size (requests gs) + 1
most_le-requests_size [] = omega arith
most_le-requests_size (g ∷ gs) = omega (arith, most_le-requests_size gs)

pub deep_le-request_size : (a : GroundNode) → max (deep-GroundNode a) 0 ≤ request_size (ground_request a)
deep_le-request_size (source.String octets) = omega arith
deep_le-request_size (source.List head further) = omega (arith, most_le-requests_size further.items)
