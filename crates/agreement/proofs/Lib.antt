pub mod AgreementLaws
