-- The value of `Signature-Input`, as contracts see it.
use Rattle.http_signature.specs.{SignatureInput.{Input}, declared.input.SignatureInput.{SignatureInput}}

abbrev pub input_of : SignatureInput → Input
input_of s =
    record { components = s.components.items; text = s.text; created = s.created; expires = s.expires; nonce = s.nonce; keyid = s.keyid; alg = s.alg; tag = s.tag }
