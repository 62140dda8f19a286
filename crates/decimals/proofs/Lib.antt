pub mod DecimalLemmas
