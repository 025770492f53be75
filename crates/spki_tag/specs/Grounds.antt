-- How the parts of a request are represented.
use Rattle.spki_tag.specs.{declared.request.GroundNode.{GroundNode, TheVariants.{String, List}}, Request.{Request, requests, string, list}}

-- the request that a `Ground` of the code represents
abbrev pub ground_request : GroundNode → Request
ground_request (String octets) = string octets.items
ground_request (List head further) = list head.items (requests further.items)
